-- A run of the example image's tray, step by step: intake, writes, damage, refused calls, and a mend.
use Rattle.std.specs.Prelude.{◌≡◌, ℕ, ◌<◌, true, List, [], ◌∷◌, Some, None, Option, slice_get, slice_index_or}
use Rattle.algebra.specs.Below.{Below}
use Rattle.byte_field.specs.Meaning.{byte_algebra}
use Rattle.rules.specs.Calls.{Call, intake, write, mend, Answer, done, mended, refused}
use Rattle.rules.specs.Promises.{Promise}
use Rattle.rules.specs.States.{State, new, unread, symbol_at}
use Rattle.rules.specs.Twins.{overwritten, EqualRow, Follows, Damage, Run, starts, calls, damaged}
use Rattle.rules.specs.declared.Refusal.TheVariants.{BadSpan, Unsound, TooManyUnsound}
use Rattle.rules.specs.declared.Round.TheVariants.{Resting}
use Rattle.rules.specs.declared.Sizes.{Sizes}
use Rattle.rules.specs.declared.Verdict.TheVariants.{Card}
use Rattle.shelves.specs.Contents.{Cell, symbol, hole, filled}

-- two data rows, two parity rows, blocks of three symbols and cards of two
abbrev pub example_sizes : Sizes
example_sizes = record { data_rows = 2; parity_rows = 2; block_length = 3; card_length = 2 }

-- what stands at each place, by rows of numbers: where a row's numbers end, its other places are holes
abbrev pub cell_of : Option ℕ → Cell (Below 256)
cell_of (Some v) = symbol (byte_algebra.element v)
cell_of None = hole

abbrev pub held : List (List ℕ) → ℕ → ℕ → Cell (Below 256)
held rows row place = cell_of (slice_get (slice_index_or rows row []) place)

-- the tray as it is delivered, and taken in
abbrev pub delivered : State (Below 256)
delivered = new example_sizes (filled 4 5 (held ((1 ∷ 2 ∷ 3 ∷ []) ∷ (4 ∷ 0 ∷ 0 ∷ []) ∷ (5 ∷ 2 ∷ 3 ∷ []) ∷ (163 ∷ 81 ∷ 247 ∷ []) ∷ [])))

abbrev pub tray : List (List ℕ) → State (Below 256)
tray rows = record { sizes = example_sizes; contents = filled 4 5 (held rows); taken_in = true; round = Resting; sheet = unread }

-- what it holds once it is taken in, and after 7 is written at row 0, place 1
abbrev pub stocked : List (List ℕ)
stocked = (1 ∷ 2 ∷ 3 ∷ 0 ∷ 9 ∷ []) ∷ (4 ∷ 0 ∷ 0 ∷ 4 ∷ 4 ∷ []) ∷ (5 ∷ 2 ∷ 3 ∷ 4 ∷ 13 ∷ []) ∷ (163 ∷ 81 ∷ 247 ∷ 5 ∷ 250 ∷ []) ∷ []

abbrev pub rewritten : List (List ℕ)
rewritten = (1 ∷ 7 ∷ 3 ∷ 5 ∷ 3 ∷ []) ∷ (4 ∷ 0 ∷ 0 ∷ 4 ∷ 4 ∷ []) ∷ (5 ∷ 7 ∷ 3 ∷ 1 ∷ 7 ∷ []) ∷ (163 ∷ 85 ∷ 247 ∷ 1 ∷ 242 ∷ []) ∷ []

-- Three rows are struck, each in its own way: a block place of row 0, all places of row 1, a card place of row 3.
abbrev pub broken : List (List ℕ)
broken = (1 ∷ 7 ∷ 9 ∷ 5 ∷ 3 ∷ []) ∷ [] ∷ (5 ∷ 7 ∷ 3 ∷ 1 ∷ 7 ∷ []) ∷ (163 ∷ 85 ∷ 247 ∷ 1 ∷ 0 ∷ []) ∷ []

-- Row 0 reads right again, so that two are struck.
abbrev pub partly_right : List (List ℕ)
partly_right = (1 ∷ 7 ∷ 3 ∷ 5 ∷ 3 ∷ []) ∷ [] ∷ (5 ∷ 7 ∷ 3 ∷ 1 ∷ 7 ∷ []) ∷ (163 ∷ 85 ∷ 247 ∷ 1 ∷ 0 ∷ []) ∷ []

-- the twin's blocks, before the write and after it
abbrev pub first_blocks : ℕ → ℕ → Below 256
first_blocks = symbol_at byte_algebra delivered

abbrev pub blocks : ℕ → ℕ → Below 256
blocks = overwritten first_blocks 0 1 (byte_algebra.element 7 ∷ [])

-- A call is answered so and leaves state s', and the twin goes on from blocks b to b'.
pub record Called (b : ℕ → ℕ → Below 256) (s : State (Below 256)) (c : Call (Below 256)) (answer : Answer (Below 256)) (s' : State (Below 256)) (b' : ℕ → ℕ → Below 256) : Type 0 where
  pub promised : Promise byte_algebra s c answer s'
  pub followed : Follows byte_algebra b s c b'

-- The steps, in their order.
pub record Steps : Type 0 where
  pub taken_in : Promise byte_algebra delivered intake done (tray stocked)
  pub written : Called first_blocks (tray stocked) (write 0 1 (byte_algebra.element 7 ∷ [])) done (tray rewritten) blocks
  -- a write at the block's end: of no symbols, and of one
  pub none_written : Called blocks (tray rewritten) (write 0 3 []) done (tray rewritten) blocks
  pub none_beyond : Called blocks (tray rewritten) (write 0 3 (byte_algebra.element 8 ∷ [])) (refused (BadSpan 3)) (tray rewritten) blocks
  pub damaged : Damage byte_algebra blocks (tray rewritten) (held broken)
  pub not_written : Called blocks (tray broken) (write 0 0 (byte_algebra.element 8 ∷ [])) (refused (Unsound 0 (Card 0))) (tray broken) blocks
  pub not_mended : Called blocks (tray broken) mend (refused (TooManyUnsound 3)) (tray broken) blocks
  pub lessened : Damage byte_algebra blocks (tray broken) (held partly_right)
  pub mended_two : Called blocks (tray partly_right) mend (mended 2) (tray rewritten) blocks
  -- at the end every row equals its twin
  pub equal : (row : ℕ) → row < 4 → EqualRow byte_algebra blocks (tray rewritten) row

-- The steps make a run.
abbrev pub run : Steps → Run byte_algebra blocks (tray rewritten)
run e =
    let took = starts example_sizes delivered.contents (tray stocked) e.taken_in in
    let wrote = calls took _ _ _ e.written.promised _ e.written.followed in
    let wrote_none = calls wrote _ _ _ e.none_written.promised _ e.none_written.followed in
    let refused_span = calls wrote_none _ _ _ e.none_beyond.promised _ e.none_beyond.followed in
    let broke = damaged refused_span (held broken) e.damaged in
    let refused_write = calls broke _ _ _ e.not_written.promised _ e.not_written.followed in
    let refused_mend = calls refused_write _ _ _ e.not_mended.promised _ e.not_mended.followed in
    let lessened = damaged refused_mend (held partly_right) e.lessened in
    calls lessened _ _ _ e.mended_two.promised _ e.mended_two.followed

-- The steps hold, and what they make is a run.
pub record ExampleRun : Type 0 where
  pub steps : Steps
  pub whole : Run byte_algebra blocks (tray rewritten)
  pub of_steps : whole ≡ run steps
