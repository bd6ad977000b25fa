-- Laws of words in bytes: a number and its four bytes say the same, both ways, and a stored word is read back and changes nothing else.
-- Assumes nothing.
use mathlib.Core.Path.{◌≡◌, refl, sym, ap, ◌∙◌}
use mathlib.Core.Logic.{◌≢◌}
use mathlib.Core.List.{List, [], ◌∷◌, ◌++◌}
use Prim.Native.Nat.{ℕ, zero, suc, ◌+◌, ◌*◌, ◌-◌, ◌/◌, ◌%◌, ◌^◌, ◌≤◌, ◌<◌}
use native.Mathlib.Nat.{div-div-eq-div-mul}
use native.Mathlib.Decide.{dec_lt}
use native.Mathlib.Omega.{arith}
use lib.ListN.{length, get_or, take, drop, length-append, get_or-append}
use lib.Seq.{ext_get_or, drop-cons, get_or-append-add, length-sets}
use Rattle.rules.specs.Tests.{tabulate}
use Rattle.rules.specs.Words.{number, bytes_of, two_bytes_of, first_two, word_at, with_word, words_of}
use Rattle.laws.specs.Meaning.{AllBytes}
use Rattle.laws.proofs.Lists.{sets_before, sets_after, sets_in, length_tabulate, get_d_tabulate}

-- ---- a number and its bytes

sum_up : (w q r t a b c : ℕ) → w ≡ 256 * q + a → q ≡ 256 * r + b → r ≡ 256 * t + c → a + 256 * b + 65536 * c + 16777216 * t ≡ w
sum_up w q r t a b c e f g = omega arith

split_off : (q : ℕ) → q ≡ 256 * (q / 256) + q % 256
split_off q = omega arith

-- the number in the bytes of w is w
pub number_bytes_of : (w : ℕ) → w < 2 ^ 32 → number (w % 256) (w / 256 % 256) (w / 65536 % 256) (w / 16777216 % 256) ≡ w
unfolding number
number_bytes_of w h =
    let f : w / 256 ≡ 256 * (w / 65536) + w / 256 % 256 = rw (div-div-eq-div-mul w 256 256) at (split_off (w / 256)) in
    let g : w / 65536 ≡ 256 * (w / 16777216) + w / 65536 % 256 = rw (div-div-eq-div-mul w 65536 256) at (split_off (w / 65536)) in
    let top : w / 16777216 % 256 ≡ w / 16777216 = omega arith in
    rw top (sum_up w (w / 256) (w / 65536) (w / 16777216) (w % 256) (w / 256 % 256) (w / 65536 % 256) (split_off w) f g)

pub length_bytes_of : (w : ℕ) → length (bytes_of w) ≡ 4
unfolding bytes_of
length_bytes_of w = refl

-- they are bytes
pub bytes_of_lt : (w : ℕ) → AllBytes (bytes_of w)
unfolding bytes_of
bytes_of_lt w zero = omega arith
bytes_of_lt w (suc zero) = omega arith
bytes_of_lt w (suc (suc zero)) = omega arith
bytes_of_lt w (suc (suc (suc zero))) = omega arith
bytes_of_lt w (suc (suc (suc (suc i)))) = omega arith

-- the bytes of the number in four bytes are those
pub bytes_of_number : (a b c d : ℕ) → a < 256 → b < 256 → c < 256 → d < 256 → bytes_of (number a b c d) ≡ a ∷ b ∷ c ∷ d ∷ []
unfolding bytes_of number
bytes_of_number a b c d la lb lc ld =
    let n = a + 256 * b + 65536 * c + 16777216 * d in
    let e0 : n % 256 ≡ a = omega arith in
    let e1 : n / 256 % 256 ≡ b = let q : n / 256 ≡ b + 256 * c + 65536 * d = omega arith in rw q (omega arith) in
    let e2 : n / 65536 % 256 ≡ c = let q : n / 65536 ≡ c + 256 * d = omega arith in rw q (omega arith) in
    let e3 : n / 16777216 % 256 ≡ d = let q : n / 16777216 ≡ d = omega arith in rw q (omega arith) in
    rw (e0, e1, e2, e3)

pub length_two_bytes_of : (n : ℕ) → length (two_bytes_of n) ≡ 2
unfolding two_bytes_of
length_two_bytes_of n = refl

-- the number in two bytes is that of which they are the lowest
pub first_two_back : (n : ℕ) (bs : List ℕ) → n < 65536 → first_two (two_bytes_of n ++ bs) ≡ n
unfolding first_two two_bytes_of
first_two_back n bs few = omega arith

pub two_bytes_of_back : (a b : ℕ) (bs : List ℕ) → a < 256 → b < 256 → two_bytes_of (first_two (a ∷ b ∷ bs)) ≡ a ∷ b ∷ []
unfolding first_two two_bytes_of
two_bytes_of_back a b bs la lb =
    let high : (a + 256 * b) / 256 ≡ b = omega arith in
    let low : (a + 256 * b) % 256 ≡ a = omega (arith, high) in
    let all : b % 256 ≡ b = omega arith in
    rw (low, high, all)

-- what is behind two bytes
pub drop_two : (n : ℕ) (bs : List ℕ) → drop 2 (two_bytes_of n ++ bs) ≡ bs
unfolding two_bytes_of
drop_two n bs = refl

-- ---- a word of a list of bytes

-- the word in the bytes of a number
pub word_at_bytes_of : (w : ℕ) → w < 2 ^ 32 → word_at (bytes_of w) 0 ≡ w
unfolding word_at bytes_of
word_at_bytes_of w l = number_bytes_of w l

-- a word depends on its four bytes alone
pub word_at_same : (bs cs : List ℕ) (i j : ℕ) → ((k : ℕ) → k < 4 → get_or bs (4 * i + k) 0 ≡ get_or cs (4 * j + k) 0) → word_at bs i ≡ word_at cs j
unfolding word_at
word_at_same bs cs i j same =
    let ei : 4 * i + 0 ≡ 4 * i = omega arith in
    let ej : 4 * j + 0 ≡ 4 * j = omega arith in
    let e0 : get_or bs (4 * i) 0 ≡ get_or cs (4 * j) 0 = rw (ei, ej) at (same 0 (omega arith)) in
    rw (e0, same 1 (omega arith), same 2 (omega arith), same 3 (omega arith))

-- the bytes of word i are those that it was read from
pub bytes_of_word_at : (bs : List ℕ) (i : ℕ) → AllBytes bs → 4 * i + 4 ≤ length bs → bytes_of (word_at bs i) ≡ take 4 (drop (4 * i) bs)
unfolding word_at
bytes_of_word_at bs i bytes room =
    let e1 : suc (4 * i) ≡ 4 * i + 1 = omega arith in
    let e2 : suc (4 * i + 1) ≡ 4 * i + 2 = omega arith in
    let e3 : suc (4 * i + 2) ≡ 4 * i + 3 = omega arith in
    let four : drop (4 * i) bs ≡ get_or bs (4 * i) 0 ∷ get_or bs (4 * i + 1) 0 ∷ get_or bs (4 * i + 2) 0 ∷ get_or bs (4 * i + 3) 0 ∷ drop (suc (4 * i + 3)) bs =
    rw (drop-cons bs (4 * i) 0 (omega arith), e1, drop-cons bs (4 * i + 1) 0 (omega arith), e2, drop-cons bs (4 * i + 2) 0 (omega arith), e3, drop-cons bs (4 * i + 3) 0 (omega arith)) in
    bytes_of_number _ _ _ _ (bytes (4 * i)) (bytes (4 * i + 1)) (bytes (4 * i + 2)) (bytes (4 * i + 3)) ∙ sym (ap (take 4) four)

pub length_words_of : (bs : List ℕ) → length (words_of bs) ≡ length bs / 4
unfolding words_of
length_words_of bs = length_tabulate (length bs / 4) (word_at bs)

pub get_d_words_of : (bs : List ℕ) (i : ℕ) → 4 * i + 4 ≤ length bs → get_or (words_of bs) i 0 ≡ word_at bs i
unfolding words_of
get_d_words_of bs i h = get_d_tabulate (length bs / 4) (word_at bs) i 0 (omega arith)

-- the words of two lists, the first of whole words
pub words_of_append : (bs cs : List ℕ) → length bs % 4 ≡ 0 → words_of (bs ++ cs) ≡ words_of bs ++ words_of cs
words_of_append bs cs whole =
    ext_get_or 0 (words_of (bs ++ cs)) (words_of bs ++ words_of cs)
    (rw (length_words_of (bs ++ cs), length-append bs cs, length-append (words_of bs) (words_of cs), length_words_of bs, length_words_of cs) (omega arith))
    (λ i l. go i (rw (length_words_of, length-append) at l) (dec_lt i n))
  where
    n : ℕ
    n = length bs / 4

    go : (i : ℕ) → i < (length bs + length cs) / 4 → Dec (i < n) → get_or (words_of (bs ++ cs)) i 0 ≡ get_or (words_of bs ++ words_of cs) i 0
    go i l (yes b) =
        get_d_words_of (bs ++ cs) i (rw length-append (omega arith))
        ∙ word_at_same (bs ++ cs) bs i i (λ k h. get_or-append bs cs 0 (4 * i + k) (omega arith))
        ∙ sym (get_d_words_of bs i (omega arith))
        ∙ sym (get_or-append (words_of bs) (words_of cs) 0 i (rw length_words_of b))
    go i l (no b) =
        let e : length (words_of bs) + (i - n) ≡ i = omega (arith, length_words_of bs) in
        get_d_words_of (bs ++ cs) i (rw length-append (omega arith))
        ∙ word_at_same (bs ++ cs) cs i (i - n)
        (λ k h. let f : length bs + (4 * (i - n) + k) ≡ 4 * i + k = omega arith in rw f at (get_or-append-add bs cs (4 * (i - n) + k) 0))
        ∙ sym (get_d_words_of cs (i - n) (omega arith))
        ∙ (rw e at (sym (get_or-append-add (words_of bs) (words_of cs) (i - n) 0)))

-- ---- a stored word

pub length_with_word : (bs : List ℕ) (i w : ℕ) → length (with_word bs i w) ≡ length bs
unfolding with_word
length_with_word bs i w = length-sets bs (4 * i) (bytes_of w)

-- a byte of the word
pub with_word_in : (bs : List ℕ) (i w k : ℕ) → 4 * i + 4 ≤ length bs → k < 4 → get_or (with_word bs i w) (4 * i + k) 0 ≡ get_or (bytes_of w) k 0
unfolding with_word
with_word_in bs i w k h hk = sets_in bs (4 * i) (bytes_of w) k 0 (rw length_bytes_of hk) (rw length_bytes_of h)

out_by : (bs : List ℕ) (i w k : ℕ) → k / 4 ≢ i → Dec (k < 4 * i) → get_or (with_word bs i w) k 0 ≡ get_or bs k 0
unfolding with_word
out_by bs i w k far (yes l) = sets_before bs (4 * i) (bytes_of w) k 0 l
out_by bs i w k far (no g) = sets_after bs (4 * i) (bytes_of w) k 0 (rw length_bytes_of (omega arith))

-- a byte outside the word stays
pub with_word_out : (bs : List ℕ) (i w k : ℕ) → k / 4 ≢ i → get_or (with_word bs i w) k 0 ≡ get_or bs k 0
with_word_out bs i w k far = out_by bs i w k far (dec_lt k (4 * i))

-- the word is read back
pub word_at_with_word : (bs : List ℕ) (i w : ℕ) → 4 * i + 4 ≤ length bs → w < 2 ^ 32 → word_at (with_word bs i w) i ≡ w
unfolding word_at bytes_of
word_at_with_word bs i w h hw =
    let e : 4 * i + 0 ≡ 4 * i = omega arith in
    let b0 : get_or (with_word bs i w) (4 * i) 0 ≡ w % 256 = rw e at (with_word_in bs i w 0 h (omega arith)) in
    let b1 : get_or (with_word bs i w) (4 * i + 1) 0 ≡ w / 256 % 256 = with_word_in bs i w 1 h (omega arith) in
    let b2 : get_or (with_word bs i w) (4 * i + 2) 0 ≡ w / 65536 % 256 = with_word_in bs i w 2 h (omega arith) in
    let b3 : get_or (with_word bs i w) (4 * i + 3) 0 ≡ w / 16777216 % 256 = with_word_in bs i w 3 h (omega arith) in
    rw (b0, b1, b2, b3) (number_bytes_of w hw)

-- the other words stay
pub word_at_other : (bs : List ℕ) (i j w : ℕ) → j ≢ i → word_at (with_word bs i w) j ≡ word_at bs j
word_at_other bs i j w ne = word_at_same (with_word bs i w) bs j j (λ k h. with_word_out bs i w (4 * j + k) (λ e. ne (omega arith)))

-- a word's bytes and others behind them are that word and the others' words
pub words_first : (w : ℕ) → w < 2 ^ 32 → (bs : List ℕ) → words_of (bytes_of w ++ bs) ≡ w ∷ words_of bs
unfolding words_of tabulate bytes_of
words_first w small bs = words_of_append (bytes_of w) bs refl ∙ ap (λ (v : ℕ). v ∷ words_of bs) (word_at_bytes_of w small)
