-- The puts of an intake and a write, one by one.
use Rattle.std.specs.Prelude.{◌≡◌, ℕ, ◌+◌, ◌-◌, ◌^◌, ◌<◌, min, List, [], ◌∷◌, ◌++◌, length, map, All}
use Rattle.algebra.specs.Algebra.{Field}
use Rattle.image_shelves.specs.Fields.{BytesPut}
use Rattle.rules.specs.Calls.{Answer, done, judged, copied, counts, entry_is, lowest_is, mended, refused, intake, write}
use Rattle.rules.specs.Order.{card_places, written_places}
use Rattle.rules.specs.Promises.{Promise}
use Rattle.rules.specs.States.{State}
use Rattle.rules.specs.Views.{seen, seen_contents}
use Rattle.rules.specs.declared.Sizes.{Sizes}
use Rattle.shelves.specs.Contents.{Contents, after_put}
use Rattle.ffi.specs.Answers.{written_over}

-- a put, with the number of its symbol
pub record Put : Type 0 where
  pub row : ℕ
  pub place : ℕ
  pub number : ℕ

-- three numbers for each put
abbrev pub put_numbers : List Put → List ℕ
put_numbers [] = []
put_numbers (put ∷ puts) = put.row ∷ put.place ∷ put.number ∷ put_numbers puts

-- their rows and places
abbrev pub put_places : List Put → List (ℕ × ℕ)
put_places puts = map (λ (put : Put). (put.row, put.place)) puts

-- the places of a call's puts: these where it was accepted, and none where it was refused
abbrev pub places_if : {A : Type 0} → Answer A → List (ℕ × ℕ) → List (ℕ × ℕ)
places_if (refused r) places = []
places_if (done) places = places
places_if (judged verdict) places = places
places_if (copied xs) places = places
places_if (counts sound others) places = places
places_if (entry_is entry) places = places
places_if (lowest_is row) places = places
places_if (mended count) places = places

-- contents after puts, one after another
abbrev pub after_puts : {A : Type 0} → Field A → List Put → Contents A → Contents A
after_puts F [] contents = contents
after_puts F (put ∷ puts) contents = after_puts F puts (after_put contents put.row put.place (F.element put.number))

module _ {X A : Type 0} (kind width : ℕ) (image : List ℕ → Contents X) (meaning : X → A) (F : Field A) where
  -- An image taken in and then written to, by a new tray of these sizes: both calls answer and leave what the rules promise, and the image is what the write
  -- leaves. The puts of both, in their order, make it that, were as many as was answered, and have their numbers written down one behind the other, as far as
  -- there is room.
  -- Beyond the most that a word holds they are no longer counted.
  pub record PutsOf (sizes : Sizes) (row start : ℕ) (symbols : List A) (bytes room : List ℕ) (answered : ℕ) (bytes' room' : List ℕ) : Type 0 where
    pub middle : State A
    pub last : State A
    pub taken : Answer A
    pub written : Answer A
    pub intakes : Promise F (seen meaning sizes (image bytes)) intake taken middle
    pub writes : Promise F middle (write row start symbols) written last
    pub left : seen_contents meaning (image bytes') ≡ last.contents
    pub bytes_put : BytesPut kind width F.size bytes bytes'
    pub made : List Put
    pub order : put_places made ≡ places_if taken (card_places sizes (sizes.data_rows + sizes.parity_rows)) ++ places_if written (written_places sizes row start (length symbols))
    pub numbered : All (λ put. put.number < F.size) made
    pub by_puts : seen_contents meaning (image bytes') ≡ after_puts F made (seen_contents meaning (image bytes))
    pub count : answered ≡ min (length made) (2 ^ 64 - 1)
    pub noted : room' ≡ written_over (put_numbers made) room
