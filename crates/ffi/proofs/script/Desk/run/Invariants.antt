use Rattle.std.proofs.Common.{◌≡◌, ◌-◌, ◌^◌, length, min}
use Rattle.ffi.specs.Runs.{ByClosure, Runs, SameDesk, numbers_before}
use Rattle.ffi.proofs.script.Desk.run.Given as goal

abbrev pub invariant-loop-index : goal.invariant-loop-index
invariant-loop-index g l = record {
  runs : Runs g.S.Shelf.contents g.S.Shelf.stores g.F.Field.meaning g.F.Field.algebra (ByClosure g.D.Fn l.damage) (length l.fn.self.symbols.now) l.script l.fn.tray l.fn.self.numbers.now l.fn.self.answers.now l.index l.tray l.self.numbers.now l.self.answers.now;
  same : SameDesk l.fn.self l.self;
  room : length l.self.symbols.now ≡ length l.fn.self.symbols.now;
  from : l.from ≡ min (numbers_before l.script l.index) (2 ^ 64 - 1);
}
