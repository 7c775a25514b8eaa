use Rattle.std.proofs.Common.{◌+◌, not, sym, ◌∙◌, arith, length}
use Rattle.std.specs.Prelude.{map}
use Rattle.rules.specs.States.{k, p, audited, sound}
use Rattle.rules.proofs.Found.{lowest_some}
use Rattle.rules.proofs.Rows.{fitting}
use Rattle.tray.specs.State.{state}
use Rattle.tray.proofs.Answering.{few_of, write_unsound_parity, write_written, mapped_length, span_passed, allowed_fits, found_with, none_with, sound_writable}
use Rattle.tray.proofs.Tray.write.Goals as goal

pub returns-in-Some-clause-promise : goal.returns-in-Some-clause-promise
returns-in-Some-clause-promise g c =
    let F = g.S.Symbol.Field.algebra in
    let meaning = g.S.Symbol.Field.meaning in
    let s = state g.S.Shelf.contents meaning c.args.self.now in
    let fit = c.in_ok-ready.ensures.0 in
    let f = fitting F s fit in
    let xs = map meaning c.args.symbols.now in
    let passed = span_passed F s c.args.row c.args.start (length xs) _ (rw (mapped_length meaning c.args.symbols.now) (sym (c.check_span.ensures fit) ∙ c.in_ok-check_span.was)) in
    let found = (rw (c.group.ensures.sizes, c.group.ensures.shelf) at c.first_unsound_parity.ensures) (omega (arith, f.k_high, f.p_high)) (omega (arith, f.n_high, f.m_high)) in
    let at = found_with (λ i. audited F s (k s + i)) _ c.in-Some.i c.in-Some.verdict (sym found ∙ c.in-Some.is) in
    let low = lowest_some (p s) (λ i. not (sound F s (k s + i))) c.in-Some.i at.0 in
    write_unsound_parity F s fit c.in_ok-ready.ensures.1 c.args.row c.args.start xs c.if-row-self.false passed.0 passed.1
    c.in-Some.i c.parity_row.result c.in-Some.verdict (omega (arith, c.parity_row.ensures, low.0)) at.1 at.0

pub returns-clause-promise : goal.returns-clause-promise
returns-clause-promise g c =
    let F = g.S.Symbol.Field.algebra in
    let meaning = g.S.Symbol.Field.meaning in
    let s = state g.S.Shelf.contents meaning c.args.self.now in
    let fit = c.in_ok-ready.ensures.0 in
    let f = fitting F s fit in
    let xs = map meaning c.args.symbols.now in
    let passed = span_passed F s c.args.row c.args.start (length xs) _ (rw (mapped_length meaning c.args.symbols.now) (sym (c.check_span.ensures fit) ∙ c.in_ok-check_span.was)) in
    let found = (rw (c.group.ensures.sizes, c.group.ensures.shelf) at c.first_unsound_parity.ensures) (omega (arith, f.k_high, f.p_high)) (omega (arith, f.n_high, f.m_high)) in
    let none = none_with (λ i. audited F s (k s + i)) _ (sym found ∙ c.in_default.is) in
    let writable = sound_writable F meaning c.args.self.now.sizes (g.S.Shelf.contents c.args.self.now.shelf) fit c.args.row c.if-row-self.false passed.1 none in
    let room = allowed_fits F s c.args.start (length xs) passed.0 in
    write_written F s fit c.in_ok-ready.ensures.1 c.args.row c.args.start xs c.if-row-self.false passed.0 passed.1 none _ (c.write_symbols.ensures.written.symbols writable room)

pub returns-clause-order : goal.returns-clause-order
returns-clause-order g c =
    let F = g.S.Symbol.Field.algebra in
    let meaning = g.S.Symbol.Field.meaning in
    let s = state g.S.Shelf.contents meaning c.args.self.now in
    let fit = c.in_ok-ready.ensures.0 in
    let passed = span_passed F s c.args.row c.args.start _ _ (sym (c.check_span.ensures fit) ∙ c.in_ok-check_span.was) in
    c.write_symbols.ensures.puts (few_of F s fit) (allowed_fits F s c.args.start _ passed.0)

pub returns-clause-puts : goal.returns-clause-puts
returns-clause-puts g c = record { places = _; puts = returns-clause-order g c }
