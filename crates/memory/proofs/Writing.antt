-- The bits of bytes that are stored: after n stores the first 8n bits are those of the number.
-- Assumes nothing.
use mathlib.Core.Path.{◌≡◌, refl, ◌∙◌}
use mathlib.Core.Bool.{Bool, true, false}
use mathlib.Core.List.{List}
use Prim.Native.Nat.{ℕ, suc, ◌+◌, ◌-◌, ◌*◌, ◌/◌, ◌%◌, ◌^◌, ◌≤◌, ◌<◌}
use native.Mathlib.Decide.{ℕ_discrete}
use native.Mathlib.Omega.{arith}
use lib.Dec.{leb, ltb}
use lib.ListN.{length, set, length-set}
use lib.Seq.{sets}
use borrow.Author.Tests.{leb-true, ltb-true, ltb-false, le-leb, lt-ltb, le-ltb}
use Rattle.rules.specs.Tests.{pick, both}
use Rattle.rules.specs.Bits.{bit_of, bit_at}
use Rattle.rules.specs.Words.{bytes_of}
use Rattle.laws.proofs.Bits.{bit_of_mod, bit_of_shr, bit_at_stored, bit_at_kept}
use Rattle.memory.specs.Bits.{WithBits}

module _ (bytes : List ℕ) (at w : ℕ) where
  -- n bytes are stored
  record Stored (n : ℕ) (after : List ℕ) : Type 0 where
    long : length after ≡ length bytes
    bits : (k : ℕ) → bit_at after k ≡ pick (both (leb (8 * at) k) (ltb k (8 * at + 8 * n))) (bit_of w (k - 8 * at)) (bit_at bytes k)

  none_stored : Stored 0 bytes
  none_stored = record { long = refl; bits = λ k. go k (leb (8 * at) k) refl }
    where
      go : (k : ℕ) (x : Bool) → leb (8 * at) k ≡ x → bit_at bytes k ≡ pick (both x (ltb k (8 * at + 8 * 0))) (bit_of w (k - 8 * at)) (bit_at bytes k)
      go k true l = rw (le-ltb k (8 * at + 8 * 0) (omega (arith, leb-true (8 * at) k l)))
      go k false l = refl

  -- one more
  store : (n place v : ℕ) (after : List ℕ) → place ≡ at + n → at + n < length bytes → v ≡ w / 2 ^ (8 * n) % 256 → Stored n after → Stored (suc n) (set after place v)
  store n place v after p room e stored = rw p record { long = length-set after (at + n) v ∙ stored.long; bits = λ k. go k (ℕ_discrete (k / 8) (at + n)) }
    where
      go : (k : ℕ) → Dec (k / 8 ≡ at + n) → bit_at (set after (at + n) v) k ≡ pick (both (leb (8 * at) k) (ltb k (8 * at + 8 * suc n))) (bit_of w (k - 8 * at)) (bit_at bytes k)
      go k (yes q) =
          let i : 8 * n + k % 8 ≡ k - 8 * at = omega (arith, q) in
          let b : bit_of (w / 2 ^ (8 * n) % 256) (k % 8) ≡ bit_of w (k - 8 * at) = bit_of_mod (w / 2 ^ (8 * n)) 8 (k % 8) (omega arith) ∙ bit_of_shr w (8 * n) (k % 8) ∙ rw i in
          rw (le-leb (8 * at) k (omega (arith, q)), lt-ltb k (8 * at + 8 * suc n) (omega (arith, q))) (bit_at_stored after (at + n) v k (omega (arith, room, stored.long)) q ∙ rw e b)
      go k (no q) = bit_at_kept after (at + n) v k q ∙ stored.bits k ∙ other (leb (8 * at) k) refl (ltb k (8 * at + 8 * n)) refl
        where
          other : (x : Bool) → leb (8 * at) k ≡ x → (y : Bool) → ltb k (8 * at + 8 * n) ≡ y
              → pick (both x y) (bit_of w (k - 8 * at)) (bit_at bytes k) ≡ pick (both x (ltb k (8 * at + 8 * suc n))) (bit_of w (k - 8 * at)) (bit_at bytes k)
          other true l true h = rw (lt-ltb k (8 * at + 8 * suc n) (omega (arith, ltb-true k (8 * at + 8 * n) h)))
          other true l false h = rw (le-ltb k (8 * at + 8 * suc n) (omega (arith, q, leb-true (8 * at) k l, ltb-false k (8 * at + 8 * n) h)))
          other false l y h = refl

  -- the four bytes of a word
  four_stored : at + 4 ≤ length bytes → Stored 4 (sets bytes at (bytes_of w))
  unfolding bytes_of
  four_stored room =
      store 3 _ _ _ (omega arith) (omega arith) refl
      (store 2 _ _ _ (omega arith) (omega arith) refl (store 1 _ _ _ (omega arith) (omega arith) refl
      (store 0 at (w % 256) bytes (omega arith) (omega arith) (omega arith) none_stored)))

  pub word_stored : at + 4 ≤ length bytes → WithBits bytes at w (sets bytes at (bytes_of w))
  word_stored room = (four_stored room).bits
