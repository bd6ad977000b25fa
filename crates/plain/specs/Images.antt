-- The image of a plain list: that of a table and a pool in which its objects lie. And the objects in a file that is opened.
-- Assumes nothing.
use Rattle.std.specs.Prelude.{List, [], ◌∷◌, ◌++◌, ℕ, suc, ◌-◌, ◌*◌, take, drop, replicate}
use Rattle.rules.specs.Tests.{pick, leading}
use Rattle.rules.specs.Words.{bytes_of, words_of}
use Rattle.rules.specs.Entries.{FREE, HEAD, TAIL}
use Rattle.rules.specs.Tables.{is_free, is_head, is_tail}
use Rattle.rules.specs.Images.{sections}
use Rattle.plain.specs.Objects.{Object, object, Plain, end}

-- the entries from block `from` on, where n blocks have these objects in them: for each a HEAD and its TAILs, and FREE for every other block
unfoldable pub entries_from : ℕ → ℕ → List Object → List ℕ
entries_from n from [] = replicate (n - from) FREE
entries_from n from (o ∷ os) = replicate (o.start - from) FREE ++ (HEAD ∷ replicate (o.blocks - 1) TAIL) ++ entries_from n (end o) os

-- the bytes of words, one after the other
unfoldable pub bytes_of_all : List ℕ → List ℕ
bytes_of_all [] = []
bytes_of_all (w ∷ ws) = bytes_of w ++ bytes_of_all ws

-- the bytes of all objects' words, in order
unfoldable pub contents : List Object → List ℕ
contents [] = []
contents (o ∷ os) = bytes_of_all o.words ++ contents os

-- the image of the list with a root list
unfoldable pub image_of_list : ℕ → Plain → List ℕ → List ℕ
image_of_list base p roots = sections base (entries_from p.size 0 p.objects) (contents p.objects) roots

-- the objects in entries from block k on, whose used blocks have these bytes, 16 each, and a FREE block none: for each HEAD an object of that block and of the TAILs directly
-- behind it, with the words in their bytes
unfoldable pub objects_from : ℕ → List ℕ → List ℕ → List Object
objects_from k [] bytes = []
objects_from k (e ∷ es) bytes =
    let b : ℕ = suc (leading is_tail es) in
    let behind : List Object = objects_from (suc k) es (drop 16 bytes) in
    pick (is_free e) (objects_from (suc k) es bytes)
    (pick (is_head e) (object k b (words_of (take (16 * b) bytes)) ∷ behind) behind)
