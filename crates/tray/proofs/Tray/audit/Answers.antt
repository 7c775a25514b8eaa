use Rattle.std.proofs.Common.{ℕ, refl, arith}
use Rattle.std.proofs.lemmas.Result.{err_from_is_err_and}
use Rattle.algebra.specs.Algebra.{Field}
use Rattle.rules.specs.Audits.{AuditExact, ChangesSeen, NoLongerSound}
use Rattle.rules.specs.Calls.{Answer, audit}
use Rattle.rules.specs.Promises.{Promise}
use Rattle.rules.specs.States.{State}
use Rattle.rules.specs.Twins.{AuditFaithful}
use Rattle.rules.proofs.Audits.{audit_exact, changes_seen, no_longer_sound}
use Rattle.rules.proofs.Law.{faithful}
use Rattle.rules.proofs.Rows.{fitting}
use Rattle.tray.specs.State.{state}
use Rattle.tray.proofs.Answering.{row_count, audit_no_row, audit_judged}
use Rattle.tray.proofs.Tray.audit.Goals as goal

-- all clauses, from the promise
clauses : {A : Type 0} (F : Field A) (s : State A) (row : ℕ) (answer : Answer A) → Promise F s (audit row) answer s
    → record { promise : Promise F s (audit row) answer s; exact : AuditExact F; changes : ChangesSeen F; no_longer : NoLongerSound F; after_runs : AuditFaithful F s row answer }
clauses F s row answer promise =
    record { promise = promise; exact = audit_exact F; changes = changes_seen F; no_longer = no_longer_sound F; after_runs = (faithful F s).0 row answer s promise }

pub returns-in_err-ready : goal.returns-in_err-ready
returns-in_err-ready g c =
    let q = err_from_is_err_and c.from_residual.result c.from_residual.ensures.1 in
    clauses g.S.Symbol.Field.algebra (state g.S.Shelf.contents g.S.Symbol.Field.meaning c.args.self.now) c.args.row _ (rw (q.1, q.2) (c.in_err-ready.ensures (audit c.args.row) refl))

pub returns-then-row-rows : goal.returns-then-row-rows
returns-then-row-rows g c =
    let F = g.S.Symbol.Field.algebra in
    let s = state g.S.Shelf.contents g.S.Symbol.Field.meaning c.args.self.now in
    let all = row_count F s c.in_ok-ready.ensures.0 c.rows.ensures in
    clauses F s c.args.row _ (audit_no_row F s c.in_ok-ready.ensures.0 c.in_ok-ready.ensures.1 c.args.row (omega arith))

pub returns : goal.returns
returns g c =
    let F = g.S.Symbol.Field.algebra in
    let s = state g.S.Shelf.contents g.S.Symbol.Field.meaning c.args.self.now in
    let all = row_count F s c.in_ok-ready.ensures.0 c.rows.ensures in
    let f = fitting F s c.in_ok-ready.ensures.0 in
    clauses F s c.args.row _ (audit_judged F s c.in_ok-ready.ensures.0 c.in_ok-ready.ensures.1 c.args.row c.audit.result (omega arith) ((rw (c.group.ensures.sizes, c.group.ensures.shelf) at c.audit.ensures) (omega (arith, f.n_high, f.m_high))))
