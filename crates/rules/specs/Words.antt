-- Words in bytes: 32 bits, lowest byte first, on every host. Only this module knows the byte order.
-- Assumes nothing.
use Rattle.std.specs.Prelude.{List, [], ◌∷◌, ℕ, ◌+◌, ◌*◌, ◌/◌, ◌%◌, length, get_or}
use Rattle.std.proofs.lemmas.List.Edits.{sets}
use Rattle.rules.specs.Tests.{tabulate}

-- the number in four bytes, the first the lowest
unfoldable pub number : ℕ → ℕ → ℕ → ℕ → ℕ
number a b c d = a + 256 * b + 65536 * c + 16777216 * d

-- the four bytes of a number, the lowest first
unfoldable pub bytes_of : ℕ → List ℕ
bytes_of w = w % 256 ∷ w / 256 % 256 ∷ w / 65536 % 256 ∷ w / 16777216 % 256 ∷ []

-- the two lowest bytes of a number, the lowest first
unfoldable pub two_bytes_of : ℕ → List ℕ
two_bytes_of n = n % 256 ∷ n / 256 % 256 ∷ []

-- the number in the first two bytes, the first the lowest
unfoldable pub first_two : List ℕ → ℕ
first_two bs = get_or bs 0 0 + 256 * get_or bs 1 0

-- word i of a list of bytes
unfoldable pub word_at : List ℕ → ℕ → ℕ
word_at bs i = number (get_or bs (4 * i) 0) (get_or bs (4 * i + 1) 0) (get_or bs (4 * i + 2) 0) (get_or bs (4 * i + 3) 0)

-- the bytes with w as word i
unfoldable pub with_word : List ℕ → ℕ → ℕ → List ℕ
with_word bs i w = sets bs (4 * i) (bytes_of w)

-- all whole words, in order
unfoldable pub words_of : List ℕ → List ℕ
words_of bs = tabulate (length bs / 4) (word_at bs)
