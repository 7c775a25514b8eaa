use Rattle.std.proofs.Common.{rules, ◌≡◌, ◌+◌, ◌∙◌, subst, arith}
use native.Mathlib.Numerals.{unary_clauses}
use Rattle.rules.specs.Order.{card_places}
use Rattle.shelves.specs.Puts.{PutsAt, unput}
use Rattle.shelves.proofs.Puts.{puts_after}
use Rattle.rows.proofs.Carding.{row_more, all_rows, no_overflow}
use Rattle.rows.proofs.GroupMut.put_cards.Goals as goal

pub loop-row-init : goal.loop-row-init
loop-row-init g c = record { same = search rules; held = search rules; puts = λ room. unput }

pub loop-row-preserved : goal.loop-row-preserved
loop-row-preserved g c =
    let F = g.S.Symbol.Field.algebra in
    let meaning = g.S.Symbol.Field.meaning in
    let sizes = c.args.self.now.sizes in
    let held = g.S.Shelf.contents c.loop-row.self.shelf.now in
    let same = c.loop-row.invariant.same in
    record {
      same = record { shelf = c.put_card.ensures.same.shelf ∙ same.shelf; sizes = c.put_card.ensures.same.sizes ∙ same.sizes };
      held = row_more F meaning sizes (g.S.Shelf.contents c.args.self.now.shelf.now) c.loop-row.row held _ (omega (arith, c.rows-row-end.ensures)) c.loop-row.invariant.held
          (rw same.sizes at c.put_card.ensures.cards);
      puts = λ room. simp unary_clauses (puts_after g.S.Shelf.stores (c.loop-row.invariant.puts room) ((rw same.sizes at c.put_card.ensures.puts) room));
    }

pub returns-clause-cards : goal.returns-clause-cards
returns-clause-cards g c =
    let F = g.S.Symbol.Field.algebra in
    let meaning = g.S.Symbol.Field.meaning in
    let before = g.S.Shelf.contents c.args.self.now.shelf.now in
    all_rows F meaning c.args.self.now.sizes before _ c.loop-row.row
    (λ fit. omega (arith, c.rows-row-end.ensures, (no_overflow F meaning c.args.self.now.sizes before fit).1)) c.loop-row.invariant.held

pub returns-clause-puts : goal.returns-clause-puts
returns-clause-puts g c high room =
    let sizes = c.args.self.now.sizes in
    let end : c.loop-row.row ≡ sizes.data_rows + sizes.parity_rows = omega (arith, c.rows-row-end.ensures, high) in
    subst (λ v. PutsAt g.S.Shelf.stores c.args.self.now.shelf.now (card_places sizes v) c.loop-row.self.shelf.now) end (c.loop-row.invariant.puts room)
