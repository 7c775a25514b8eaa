-- What puts to an image's shelf leave of its bytes.
use Rattle.std.proofs.Common.{◌≡◌, ℕ, ◌<◌, List}
use Rattle.shelves.specs.Puts.{ByPuts}
use Rattle.shelves.proofs.Puts.{no_puts, one_put, all_after, puts_keep, puts_shown}
use Rattle.image_shelves.specs.declared.image.ImageShelf.{ImageShelf}
use Rattle.image_shelves.specs.Layout.{image_spot, put_at}
use Rattle.image_shelves.specs.Fields.{image_stores, bytes_stores, BytesPut}

module _ {X : Type 0} (kind width : ℕ) (number : X → ℕ) where
  -- they are still the same bytes of memory
  pub same_bytes : {a b : ImageShelf X} → ByPuts (image_stores kind width number) a b → b.bytes.ghost_name ≡ a.bytes.ghost_name
  same_bytes = puts_keep (image_stores kind width number) (λ s. s.bytes.ghost_name) (λ s row place x after d. d.same)

  pub bytes_put : (size : ℕ) → ((x : X) → number x < size) → {a b : ImageShelf X} → ByPuts (image_stores kind width number) a b → BytesPut kind width size a.bytes.now b.bytes.now
  bytes_put size small = puts_shown (image_stores kind width number) (λ s. s.bytes.now) number _ (λ s row place x after d. (small x, d.bytes))

-- no put to bytes, and one more
pub bytes_unput : (kind width size : ℕ) → (bytes : List ℕ) → BytesPut kind width size bytes bytes
bytes_unput kind width size bytes = no_puts (bytes_stores kind width size) bytes

pub bytes_put_more : (kind width size : ℕ) {a b c : List ℕ} → BytesPut kind width size a b → (row place v : ℕ) → v < size → c ≡ put_at width (image_spot kind width b row place) v b → BytesPut kind width size a c
bytes_put_more kind width size p row place v small is = all_after (bytes_stores kind width size) p (record { places = _; puts = one_put (bytes_stores kind width size) row place v (small, is) })
