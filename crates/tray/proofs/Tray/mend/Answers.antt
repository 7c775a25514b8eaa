use Rattle.std.proofs.Common.{◌≤◌, ℕ, refl, arith}
use Rattle.std.proofs.lemmas.Result.{err_from_is_err_and}
use Rattle.algebra.specs.Algebra.{Field}
use Rattle.algebra.specs.Below.{Below}
use Rattle.rules.specs.Calls.{Answer, mend}
use Rattle.rules.specs.Exact.{MendExact}
use Rattle.rules.specs.Promises.{Promise, Answered}
use Rattle.rules.specs.States.{State, new, p, unsound_count}
use Rattle.rules.specs.Twins.{MendFaithful, Faithful}
use Rattle.rules.proofs.Answered.{answered}
use Rattle.rules.proofs.Law.{faithful}
use Rattle.rules.proofs.Mend.{mend_exact}
use Rattle.shelves.proofs.Puts.{no_puts}
use Rattle.tray.specs.State.{state}
use Rattle.tray.proofs.Mending.{mend_many, mend_misfit, mend_done}
use Rattle.tray.proofs.Tray.mend.Goals as goal

-- all clauses, from the promise
clauses : {A O P R : Type 0} (F : Field A) (s s' : State A) (answer : Answer A) → Promise F s mend answer s' → O → P → R
    → record { promise : Promise F s mend answer s'; exact : MendExact F; answered : (q : ℕ) (F : Field (Below q)) → Answered F; law : (q : ℕ) (F : Field (Below q)) → Faithful F; after_runs : MendFaithful F s s'; order : O; puts : P; refused : R }
clauses F s s' answer promise order puts refused =
    record { promise = promise; exact = mend_exact F; answered = λ q F. answered F; law = λ q F. faithful F; after_runs = (faithful F s).1 answer s' promise; order = order; puts = puts; refused = refused }

pub returns-in_err-ready : goal.returns-in_err-ready
returns-in_err-ready g c =
    let q = err_from_is_err_and c.from_residual.result c.from_residual.ensures.1 in
    clauses g.S.Symbol.Field.algebra (state g.S.Shelf.contents g.S.Symbol.Field.meaning c.args.self.now) _ _ (rw (q.1, q.2) (c.in_err-ready.ensures mend refl)) (rw q.1 tt) (no_puts _ _) (rw q.1 refl)

pub returns-then-damage-self : goal.returns-then-damage-self
returns-then-damage-self g c =
    let F = g.S.Symbol.Field.algebra in
    let s = state g.S.Shelf.contents g.S.Symbol.Field.meaning c.args.self.now in
    let fit = c.in_ok-ready.ensures.0 in
    let gathered = (rw (c.group.ensures.sizes, c.group.ensures.shelf) at c.gather-damage.ensures) fit in
    clauses F s _ _ (mend_many F s fit c.in_ok-ready.ensures.1 c.gather-damage.result.count gathered.count c.if-damage-self.true) tt (no_puts _ _) refl

pub returns-in-Some : goal.returns-in-Some
returns-in-Some g c =
    let F = g.S.Symbol.Field.algebra in
    let s = state g.S.Shelf.contents g.S.Symbol.Field.meaning c.args.self.now in
    let fit = c.in_ok-ready.ensures.0 in
    let gathered = (rw (c.group.ensures.sizes, c.group.ensures.shelf) at c.gather-damage.ensures) fit in
    let few : unsound_count F s ≤ p s = omega (arith, gathered.count, c.if-damage-self.false) in
    let ready = c.new-plan.ensures.ready_for (new s.sizes s.contents) refl fit few gathered in
    let found = (rw (c.group-2.ensures.sizes, c.group-2.ensures.shelf) at c.first_worked_misfit_for.ensures) ready in
    clauses F s _ _ (mend_misfit F s fit c.in_ok-ready.ensures.1 few c.first_worked_misfit_for.result found c.in-Some.i c.in-Some.place c.parity_row.result c.parity_row.ensures c.in-Some.is) tt (no_puts _ _) refl

pub returns : goal.returns
returns g c =
    let F = g.S.Symbol.Field.algebra in
    let s = state g.S.Shelf.contents g.S.Symbol.Field.meaning c.args.self.now in
    let fit = c.in_ok-ready.ensures.0 in
    let gathered = (rw (c.group.ensures.sizes, c.group.ensures.shelf) at c.gather-damage.ensures) fit in
    let few : unsound_count F s ≤ p s = omega (arith, gathered.count, c.if-damage-self.false) in
    let ready = c.new-plan.ensures.ready_for (new s.sizes s.contents) refl fit few gathered in
    let found = (rw (c.group-2.ensures.sizes, c.group-2.ensures.shelf) at c.first_worked_misfit_for.ensures) ready in
    let puts = c.put_rows_for.ensures.puts ready in
    clauses F s _ _ (mend_done F s fit c.in_ok-ready.ensures.1 few c.first_worked_misfit_for.result found c.in_default.is c.gather-damage.result.count gathered.count _ (c.put_rows_for.ensures.mended ready)) puts (record { places = _; puts = puts }) tt
