-- Words of a pool after a run of stores of whole words: outside it as they were, in it those of the stored bytes.
-- Assumes nothing.
use mathlib.Core.Path.{◌≡◌, refl, ap, ◌∙◌}
use mathlib.Core.List.{List, ◌++◌}
use Prim.Native.Nat.{ℕ, zero, suc, ◌+◌, ◌-◌, ◌*◌, ◌/◌, ◌%◌, ◌^◌, ◌≤◌, ◌<◌}
use native.Mathlib.Omega.{arith}
use lib.ListN.{length, get_or, take, drop, replicate, length-append, length-replicate, get_or-append}
use lib.Seq.{sets, get_or-append-add, get_or-take, get_or-drop}
use Rattle.rules.specs.Words.{number, bytes_of, word_at, with_word}
use Rattle.laws.proofs.Lists.{sets_out, sets_in}
use Rattle.laws.proofs.Words.{number_bytes_of, length_bytes_of, word_at_same}

-- m words stored from word a on
module _ (pool vs : List ℕ) (a m : ℕ) (whole : length vs ≡ 4 * m) where
  pub words_out : (i : ℕ) → (a ≤ i → i < a + m → ⊥) → word_at (sets pool (4 * a) vs) i ≡ word_at pool i
  words_out i out =
      word_at_same (sets pool (4 * a) vs) pool i i (λ c h. sets_out pool (4 * a) vs (4 * i + c) 0 (λ l r. out (omega arith) (omega arith)))

  pub words_in : 4 * (a + m) ≤ length pool → (j : ℕ) → j < m → word_at (sets pool (4 * a) vs) (a + j) ≡ word_at vs j
  words_in room j h =
      word_at_same (sets pool (4 * a) vs) vs (a + j) j
      (λ c l. let e : 4 * (a + j) + c ≡ 4 * a + (4 * j + c) = omega arith in rw e (sets_in pool (4 * a) vs (4 * j + c) 0 (omega arith) (omega arith)))

pub zero_at : (n i : ℕ) → ◌≡◌ {A = ℕ} (get_or (replicate n 0) i 0) 0
zero_at zero i = refl
zero_at (suc n) zero = refl
zero_at (suc n) (suc i) = zero_at n i

pub word_zero : (n i : ℕ) → word_at (replicate n 0) i ≡ 0
unfolding word_at number
word_zero n i = rw (zero_at n (4 * i), zero_at n (4 * i + 1), zero_at n (4 * i + 2), zero_at n (4 * i + 3))

-- the stored bytes of a word are its 32 bits
module _ (q v : ℕ) where
  second : (4294967296 * q + v) / 256 % 256 ≡ v / 256 % 256
  second =
      let e : (4294967296 * q + v) / 256 ≡ 16777216 * q + v / 256 = omega arith in
      rw e (omega arith)

  third : (4294967296 * q + v) / 65536 % 256 ≡ v / 65536 % 256
  third =
      let e : (4294967296 * q + v) / 65536 ≡ 65536 * q + v / 65536 = omega arith in
      rw e (omega arith)

  fourth : (4294967296 * q + v) / 16777216 % 256 ≡ v / 16777216 % 256
  fourth =
      let e : (4294967296 * q + v) / 16777216 ≡ 256 * q + v / 16777216 = omega arith in
      rw e (omega arith)

  first : (4294967296 * q + v) % 256 ≡ v % 256
  first = omega arith

  word_bits : v < 2 ^ 32 → word_at (bytes_of (4294967296 * q + v)) 0 ≡ v
  unfolding word_at bytes_of
  word_bits h = rw (first, second, third, fourth) (number_bytes_of v h)

pub word_bytes : (w : ℕ) → word_at (bytes_of w) 0 ≡ w % 2 ^ 32
word_bytes w =
    let e : w ≡ 4294967296 * (w / 2 ^ 32) + w % 2 ^ 32 = omega arith in
    ap (λ (n : ℕ). word_at (bytes_of n) 0) e ∙ word_bits (w / 2 ^ 32) (w % 2 ^ 32) (omega arith)

-- words in front of others
pub word_front : (xs ys : List ℕ) (n i : ℕ) → length xs ≡ 4 * n → i < n → word_at (xs ++ ys) i ≡ word_at xs i
word_front xs ys n i l h = word_at_same (xs ++ ys) xs i i (λ c u. get_or-append xs ys 0 (4 * i + c) (omega arith))

pub word_behind : (xs ys : List ℕ) (n i : ℕ) → length xs ≡ 4 * n → word_at (xs ++ ys) (n + i) ≡ word_at ys i
word_behind xs ys n i l =
    word_at_same (xs ++ ys) ys (n + i) i (λ c u. let e : 4 * (n + i) + c ≡ length xs + (4 * i + c) = omega arith in rw e (get_or-append-add xs ys (4 * i + c) 0))

-- a part of n words from word a on
pub word_part : (xs : List ℕ) (a n i : ℕ) → i < n → word_at (take (4 * n) (drop (4 * a) xs)) i ≡ word_at xs (a + i)
word_part xs a n i h =
    word_at_same (take (4 * n) (drop (4 * a) xs)) xs i (a + i)
    (λ c u. let e : 4 * (a + i) + c ≡ 4 * a + (4 * i + c) = omega arith in
    get_or-take (4 * n) (drop (4 * a) xs) (4 * i + c) 0 (omega arith) ∙ rw e (get_or-drop (4 * a) xs (4 * i + c) 0))

-- one word stored
pub word_stored : (pool : List ℕ) (a w : ℕ) → 4 * (a + 1) ≤ length pool → word_at (with_word pool a w) a ≡ w % 2 ^ 32
unfolding with_word
word_stored pool a w h =
    let e : a + 0 ≡ a = omega arith in
    (rw e at (words_in pool (bytes_of w) a 1 (length_bytes_of w) h 0 (omega arith))) ∙ word_bytes w

-- words with zeros after them
pub padded_front : (ws : List ℕ) (n m j : ℕ) → length ws ≡ n → j < n → get_or (ws ++ replicate m 0) j 0 ≡ get_or ws j 0
padded_front ws n m j l h = get_or-append ws (replicate m 0) 0 j (omega arith)

pub padded_rest : (ws : List ℕ) (n m j : ℕ) → length ws ≡ n → n ≤ j → get_or (ws ++ replicate m 0) j 0 ≡ 0
padded_rest ws n m j l h =
    let e : j ≡ length ws + (j - n) = omega arith in
    rw e (get_or-append-add ws (replicate m 0) (j - n) 0 ∙ zero_at m (j - n))

pub padded_length : (ws : List ℕ) (n m k : ℕ) → length ws ≡ n → n + m ≡ k → length (ws ++ replicate m 0) ≡ k
padded_length ws n m k l e = simp (length-append, length-replicate) (omega arith)
