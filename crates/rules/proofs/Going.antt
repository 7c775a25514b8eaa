-- Every run goes on with any call, and the twin with it, in one way.
use Rattle.std.proofs.Common.{◌≡◌, ℕ, List, refl}
use Rattle.algebra.specs.Algebra.{Field}
use Rattle.rules.specs.States.{State}
use Rattle.rules.specs.Calls.{Call, fit, intake, cross, begin, step, totals, first, mend, audit, record_of, read, write, Answer}
use Rattle.rules.specs.Promises.{Promise, accepted, rejected}
use Rattle.rules.specs.Twins.{overwritten, Follows, takes, stands, GoesOn}
use Rattle.rules.proofs.Kept.{Kept}
use Rattle.rules.proofs.Law.{none_if_taken, taken_if_none, run_kept}

module _ {X : Type 0} (F : Field X) (blocks : ℕ → ℕ → X) (s : State X) (kept : Kept F blocks s) where
  -- a call that is no write
  untold : (c : Call X) → ((row start : ℕ) (xs : List X) → c ≡ write row start xs → ⊥) → (blocks' : ℕ → ℕ → X) × Follows F blocks s c blocks'
  untold c other = (blocks, stands (λ row start xs e t. other row start xs e))

  follows : (c : Call X) (answer : Answer X) (s' : State X) → Promise F s c answer s' → (blocks' : ℕ → ℕ → X) × Follows F blocks s c blocks'
  follows (write row start xs) _ _ (rejected r line lowest) =
      (blocks, stands (λ row' start' xs' e t. none_if_taken F blocks s kept t r (rw e at line)))
  follows (write row start xs) _ _ (accepted none accepts) =
      (overwritten blocks row start xs, takes row start xs refl (taken_if_none F blocks s kept none))
  follows fit answer s' promise = untold fit (λ row start xs e. cc)
  follows intake answer s' promise = untold intake (λ row start xs e. cc)
  follows cross answer s' promise = untold cross (λ row start xs e. cc)
  follows begin answer s' promise = untold begin (λ row start xs e. cc)
  follows step answer s' promise = untold step (λ row start xs e. cc)
  follows totals answer s' promise = untold totals (λ row start xs e. cc)
  follows first answer s' promise = untold first (λ row start xs e. cc)
  follows mend answer s' promise = untold mend (λ row start xs e. cc)
  follows (audit r) answer s' promise = untold (audit r) (λ row start xs e. cc)
  follows (record_of r) answer s' promise = untold (record_of r) (λ row start xs e. cc)
  follows (read r f n) answer s' promise = untold (read r f n) (λ row start xs e. cc)

pub goes_on : {X : Type 0} (F : Field X) → GoesOn F
goes_on F blocks s run c answer s' promise = follows F blocks s (run_kept F run) c answer s' promise
