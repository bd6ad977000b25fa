-- Entries in two bit planes: how many there are, which bits they have, and that bytes and entries say the same.
-- Assumes nothing.
use mathlib.Core.Path.{◌≡◌, refl, sym, ap, ◌∙◌}
use mathlib.Core.Bool.{Bool, true, false}
use mathlib.Core.List.{List}
use Prim.Native.Nat.{ℕ, zero, suc, ◌+◌, ◌-◌, ◌*◌, ◌/◌, ◌%◌, ◌≤◌, ◌<◌, max}
use native.Mathlib.Omega.{arith}
use lib.Dec.{ltb}
use lib.ListN.{length, get_or, length-append, get_or-eq_default, get_or-append}
use lib.Seq.{ext_get_or, get_or-append-add}
use borrow.Author.Tests.{eqb-true, eq-eqb, ltb-true, ltb-false}
use Rattle.rules.specs.Tests.{pick, tabulate, count}
use Rattle.rules.specs.Bits.{bit_of, bit_at, byte_of}
use Rattle.rules.specs.Entries.{FREE}
use Rattle.rules.specs.Tables.{entry_at, is_free, is_used, used}
use Rattle.laws.specs.Meaning.{AllBytes}
use Rattle.laws.specs.Faithful.{Small, Faithful}
use Rattle.rules.specs.Memory.{memory, Sound}
use Rattle.rules.specs.Planes.{plane_bytes, entry_in, entries_in, spare, spare_free, plane, planes_of, planes, Sized, IsTable, Holds}
use Rattle.laws.proofs.Lists.{length_tabulate, get_d_tabulate, count_no, no_count, bounded_append}
use Rattle.laws.proofs.Refusals.{not-false}
use Rattle.laws.proofs.Bits.{two_bits, bit_of_lt, bit_of_byte, byte_bits, byte_of_same, bit_at_byte, bit_at_lt}

-- ---- how many there are

-- there are 4t
pub length_entries_in : (t : ℕ) (table : List ℕ) → length (entries_in t table) ≡ 4 * t
unfolding entries_in
length_entries_in t table = length_tabulate (4 * t) (entry_in t table)

-- whatever the table
pub same_length : (t : ℕ) (table table' : List ℕ) → length (entries_in t table) ≡ length (entries_in t table')
same_length t table table' = length_entries_in t table ∙ sym (length_entries_in t table')

-- at most 4,096
pub few_entries : (t : ℕ) (table : List ℕ) → IsTable t table → length (entries_in t table) ≤ 4096
few_entries t table is = omega (arith, length_entries_in t table, is.sized.few)

-- the planes have room for them
pub room_entries : (t : ℕ) → (4 * t ≤ 8 * plane_bytes t) × (8 * plane_bytes t ≤ 4 * t + 4)
unfolding plane_bytes
room_entries t = (omega arith, omega arith)

-- ---- which bits they have

-- the entry of block k, read with any default
pub get_d_entries_in : (t : ℕ) (table : List ℕ) (k d : ℕ) → k < 4 * t → get_or (entries_in t table) k d ≡ entry_in t table k
unfolding entries_in
get_d_entries_in t table k d h = get_d_tabulate (4 * t) (entry_in t table) k d h

-- an entry is FREE if neither of its bits is set
pub neither_bit : (a b : ℕ) → a < 2 → b < 2 → 1 - max a b ≡ pick (is_free (a + 2 * b)) 1 0
neither_bit = two_bits (λ (a b : ℕ). 1 - max a b ≡ pick (is_free (a + 2 * b)) 1 0) refl refl refl refl

-- bit j of byte i of each plane
pub entry_in_byte : (t : ℕ) (table : List ℕ) (i j : ℕ) → j < 8 → entry_in t table (8 * i + j) ≡ bit_of (get_or table i 0) j + 2 * bit_of (get_or table (plane_bytes t + i) 0) j
unfolding entry_in
entry_in_byte t table i j h =
    let e : 8 * plane_bytes t + (8 * i + j) ≡ 8 * (plane_bytes t + i) + j = omega arith in
    rw (e, bit_at_byte table i j h, bit_at_byte table (plane_bytes t + i) j h)

pub entry_in_lt : (t : ℕ) (table : List ℕ) (k : ℕ) → entry_in t table k < 4
unfolding entry_in
entry_in_lt t table k = omega (arith, bit_at_lt table k, bit_at_lt table (8 * plane_bytes t + k))

-- where no spare bit is set, the entries past the last block are FREE
pub past_free : (t : ℕ) (table : List ℕ) → spare_free t table ≡ true → (k : ℕ) → 4 * t ≤ k → k < 8 * plane_bytes t → entry_in t table k ≡ FREE
unfolding spare_free spare used
past_free t table clean k g h =
    let e : 4 * t + (k - 4 * t) ≡ k = omega arith in
    let n : ℕ = 8 * plane_bytes t - 4 * t in
    let f : ℕ → ℕ = λ (j : ℕ). entry_in t table (4 * t + j) in
    let no = count_no is_used (tabulate n f) (k - 4 * t) 0 (eqb-true (count is_used (tabulate n f)) 0 clean) (omega (arith, length_tabulate n f, g, h)) in
    let at : is_used (entry_in t table (4 * t + (k - 4 * t))) ≡ false = rw (get_d_tabulate n f (k - 4 * t) 0 (omega (arith, g, h))) at no in
    eqb-true (entry_in t table k) FREE (not-false _ (rw e at at))

-- and where they are, none is
pub spare_clean : (t : ℕ) (table : List ℕ) → ((k : ℕ) → 4 * t ≤ k → k < 8 * plane_bytes t → entry_in t table k ≡ FREE) → spare_free t table ≡ true
unfolding spare_free spare used
spare_clean t table free =
    eq-eqb (count is_used (tabulate n f)) 0
    (no_count is_used (tabulate n f) 0
    (λ j h.
    let l : j < n = omega (arith, h, length_tabulate n f) in
    ap is_used (get_d_tabulate n f j 0 l ∙ free (4 * t + j) (omega arith) (omega (arith, l)))))
  where
    n : ℕ
    n = 8 * plane_bytes t - 4 * t

    f : ℕ → ℕ
    f j = entry_in t table (4 * t + j)

-- so every place of the planes has its entry
pub entry_clean : (t : ℕ) (table : List ℕ) → spare_free t table ≡ true → (k : ℕ) → k < 8 * plane_bytes t → entry_at (entries_in t table) k ≡ entry_in t table k
entry_clean t table clean k h = go (ltb k (4 * t)) refl
  where
    go : (b : Bool) → ltb k (4 * t) ≡ b → entry_at (entries_in t table) k ≡ entry_in t table k
    go true l = get_d_entries_in t table k FREE (ltb-true k (4 * t) l)
    go false g =
        let past = ltb-false k (4 * t) g in
        get_or-eq_default (entries_in t table) FREE (omega (arith, length_entries_in t table, past)) ∙ sym (past_free t table clean k past h)

-- ---- when a table holds given entries

-- each place of the planes has the entry that the list has there; past its end that is FREE
pub holds_of : (t : ℕ) (es table : List ℕ) → Sized t table → length es ≡ 4 * t → ((k : ℕ) → k < 8 * plane_bytes t → entry_in t table k ≡ entry_at es k) → Holds t es table
holds_of t es table sized long same = record {
  is_table = record {
    sized = sized;
    clean = spare_clean t table (λ k g h. same k h ∙ get_or-eq_default es FREE (omega (arith, long, g)));
  };
  entries = ext_get_or FREE (entries_in t table) es (length_entries_in t table ∙ sym long)
      (λ k h.
      let l : k < 4 * t = omega (arith, h, length_entries_in t table) in
      get_d_entries_in t table k FREE l ∙ same k (omega (arith, l, (room_entries t).0)));
}

-- ---- bytes and entries say the same

length_plane : (t : ℕ) (bit : ℕ → ℕ) → length (plane t bit) ≡ plane_bytes t
unfolding plane
length_plane t bit = length_tabulate (plane_bytes t) (λ (i : ℕ). byte_of (λ (j : ℕ). bit (8 * i + j)))

pub length_planes_of : (t : ℕ) (es : List ℕ) → length (planes_of t es) ≡ 2 * plane_bytes t
unfolding planes_of
length_planes_of t es =
    let a = length_plane t (λ (k : ℕ). entry_at es k % 2) in
    let b = length_plane t (λ (k : ℕ). entry_at es k / 2 % 2) in
    omega (arith, length-append (plane t (λ (k : ℕ). entry_at es k % 2)) (plane t (λ (k : ℕ). entry_at es k / 2 % 2)), a, b)

-- byte i of a plane, and of each plane of a table
plane_byte : (t : ℕ) (bit : ℕ → ℕ) (i : ℕ) → i < plane_bytes t → get_or (plane t bit) i 0 ≡ byte_of (λ (j : ℕ). bit (8 * i + j))
unfolding plane
plane_byte t bit i h = get_d_tabulate (plane_bytes t) (λ (i : ℕ). byte_of (λ (j : ℕ). bit (8 * i + j))) i 0 h

module _ (t : ℕ) (es : List ℕ) where
  abbrev low : ℕ → ℕ
  low k = entry_at es k % 2

  abbrev high : ℕ → ℕ
  high k = entry_at es k / 2 % 2

  low_byte : (i : ℕ) → i < plane_bytes t → get_or (planes_of t es) i 0 ≡ byte_of (λ (j : ℕ). low (8 * i + j))
  unfolding planes_of
  low_byte i h = get_or-append (plane t low) (plane t high) 0 i (omega (arith, h, length_plane t low)) ∙ plane_byte t low i h

  high_byte : (i : ℕ) → i < plane_bytes t → get_or (planes_of t es) (plane_bytes t + i) 0 ≡ byte_of (λ (j : ℕ). high (8 * i + j))
  unfolding planes_of
  high_byte i h =
      let e : plane_bytes t + i ≡ length (plane t low) + i = omega (arith, length_plane t low) in
      rw e (get_or-append-add (plane t low) (plane t high) i 0) ∙ plane_byte t high i h

  -- the bits of block k
  low_bit : (k : ℕ) → k < 8 * plane_bytes t → bit_at (planes_of t es) k ≡ low k
  low_bit k h =
      let e : 8 * (k / 8) + k % 8 ≡ k = omega arith in
      let at : bit_of (get_or (planes_of t es) (k / 8) 0) (k % 8) ≡ low (8 * (k / 8) + k % 8) =
      rw (low_byte (k / 8) (omega arith)) (bit_of_byte (λ (j : ℕ). low (8 * (k / 8) + j)) (λ j. omega arith) (k % 8) (omega arith)) in
      rw e at (bit_at_byte (planes_of t es) (k / 8) (k % 8) (omega arith) ∙ at)

  high_bit : (k : ℕ) → k < 8 * plane_bytes t → bit_at (planes_of t es) (8 * plane_bytes t + k) ≡ high k
  high_bit k h =
      let e : 8 * (k / 8) + k % 8 ≡ k = omega arith in
      let g : 8 * (plane_bytes t + k / 8) + k % 8 ≡ 8 * plane_bytes t + k = omega arith in
      let at : bit_of (get_or (planes_of t es) (plane_bytes t + k / 8) 0) (k % 8) ≡ high (8 * (k / 8) + k % 8) =
      rw (high_byte (k / 8) (omega arith)) (bit_of_byte (λ (j : ℕ). high (8 * (k / 8) + j)) (λ j. omega arith) (k % 8) (omega arith)) in
      rw (g, e) at (bit_at_byte (planes_of t es) (plane_bytes t + k / 8) (k % 8) (omega arith) ∙ at)

  -- what is written is read
  module _ (small : Small es) where
    pub entry_in_planes : (k : ℕ) → k < 8 * plane_bytes t → entry_in t (planes_of t es) k ≡ entry_at es k
    unfolding entry_in
    entry_in_planes k h = rw (low_bit k h, high_bit k h) (omega (arith, small k))

    pub read_planes : length es ≡ 4 * t → entries_in t (planes_of t es) ≡ es
    read_planes long =
        ext_get_or FREE (entries_in t (planes_of t es)) es (length_entries_in t (planes_of t es) ∙ sym long)
        (λ k h.
        let l : k < 4 * t = omega (arith, h, length_entries_in t (planes_of t es)) in
        get_d_entries_in t (planes_of t es) k FREE l ∙ entry_in_planes k (omega (arith, l, (room_entries t).0)))

  -- and no spare bit is set
  spare_entry : length es ≡ 4 * t → (k : ℕ) → 4 * t ≤ k → k < 8 * plane_bytes t → entry_in t (planes_of t es) k ≡ FREE
  unfolding entry_in
  spare_entry long k g h =
      let e : entry_at es k ≡ 0 = get_or-eq_default es FREE (omega (arith, long, g)) in
      rw (low_bit k h, high_bit k h) (omega (arith, e))

  pub planes_clean : length es ≡ 4 * t → spare_free t (planes_of t es) ≡ true
  planes_clean long = spare_clean t (planes_of t es) (spare_entry long)

-- what is read is written
pub write_planes : (t : ℕ) (table : List ℕ) → AllBytes table → length table ≡ 2 * plane_bytes t → spare_free t table ≡ true → planes_of t (entries_in t table) ≡ table
write_planes t table bytes long clean =
    ext_get_or 0 (planes_of t es) table (length_planes_of t es ∙ sym long)
    (λ i h. go i (omega (arith, h, length_planes_of t es)) (ltb i (plane_bytes t)) refl)
  where
    es : List ℕ
    es = entries_in t table

    bits_of_entry : (i j : ℕ) → i < plane_bytes t → j < 8 → entry_at es (8 * i + j) ≡ bit_of (get_or table i 0) j + 2 * bit_of (get_or table (plane_bytes t + i) 0) j
    bits_of_entry i j h l = entry_clean t table clean (8 * i + j) (omega arith) ∙ entry_in_byte t table i j l

    low_same : (i : ℕ) → i < plane_bytes t → get_or (planes_of t es) i 0 ≡ get_or table i 0
    low_same i h =
        low_byte t es i h
        ∙ byte_of_same (λ (j : ℕ). entry_at es (8 * i + j) % 2) (bit_of (get_or table i 0)) (λ j l. omega (arith, bits_of_entry i j h l, bit_of_lt (get_or table i 0) j))
        ∙ byte_bits (get_or table i 0) (bytes i)

    high_same : (i : ℕ) → i < plane_bytes t → get_or (planes_of t es) (plane_bytes t + i) 0 ≡ get_or table (plane_bytes t + i) 0
    high_same i h =
        high_byte t es i h
        ∙ byte_of_same (λ (j : ℕ). entry_at es (8 * i + j) / 2 % 2) (bit_of (get_or table (plane_bytes t + i) 0))
        (λ j l. omega (arith, bits_of_entry i j h l, bit_of_lt (get_or table i 0) j, bit_of_lt (get_or table (plane_bytes t + i) 0) j))
        ∙ byte_bits (get_or table (plane_bytes t + i) 0) (bytes (plane_bytes t + i))

    go : (i : ℕ) → i < 2 * plane_bytes t → (b : Bool) → ltb i (plane_bytes t) ≡ b → get_or (planes_of t es) i 0 ≡ get_or table i 0
    go i h true l = low_same i (ltb-true i (plane_bytes t) l)
    go i h false g =
        let past = ltb-false i (plane_bytes t) g in
        let e : plane_bytes t + (i - plane_bytes t) ≡ i = omega (arith, past) in
        rw e at (high_same (i - plane_bytes t) (omega (arith, past, h)))

pub entries_small : (t : ℕ) (table : List ℕ) → Small (entries_in t table)
entries_small t table k = go (ltb k (4 * t)) refl
  where
    go : (b : Bool) → ltb k (4 * t) ≡ b → entry_at (entries_in t table) k < 4
    go true l = rw (get_d_entries_in t table k FREE (ltb-true k (4 * t) l)) (entry_in_lt t table k)
    go false g = rw (get_or-eq_default (entries_in t table) FREE {n = k} (omega (arith, length_entries_in t table, ltb-false k (4 * t) g))) (omega arith)

pub planes_faithful : (t : ℕ) → Faithful (planes t)
planes_faithful t = record {
  small = entries_small t;
  write_read = λ table bytes fits clean. write_planes t table bytes (eqb-true (length table) (2 * plane_bytes t) fits) clean;
  read_write = λ table es fits long small. read_planes t es small (long ∙ length_entries_in t table);
  write_fits = λ table es fits long. eq-eqb (length (planes_of t es)) (2 * plane_bytes t) (length_planes_of t es);
  write_long = λ table es fits long. length_planes_of t es ∙ sym (eqb-true (length table) (2 * plane_bytes t) fits);
  write_clean = λ table es fits long. planes_clean t es (long ∙ length_entries_in t table);
}

-- ---- a table that is as its form asks is one that the code may work on, and the other way round

pub is_table : (t : ℕ) (pool table : List ℕ) → length (entries_in t table) ≤ 4096 → Sound (planes t) (memory pool table) → IsTable t table
is_table t pool table few s = record { sized = record { few = omega (arith, few, length_entries_in t table); long = eqb-true _ _ s.fits }; clean = s.clean }

pub table_sound : (t : ℕ) (pool table : List ℕ) → IsTable t table → Sound (planes t) (memory pool table)
table_sound t pool table i = record { fits = eq-eqb _ _ i.sized.long; clean = i.clean }

-- ---- planes are bytes

tabulate_bytes : (n : ℕ) (f : ℕ → ℕ) → ((i : ℕ) → f i < 256) → AllBytes (tabulate n f)
unfolding tabulate
tabulate_bytes zero f small i = omega arith
tabulate_bytes (suc n) f small zero = small 0
tabulate_bytes (suc n) f small (suc i) = tabulate_bytes n (λ (k : ℕ). f (suc k)) (λ k. small (suc k)) i

all_bytes_plane : (t : ℕ) (bit : ℕ → ℕ) → ((k : ℕ) → bit k < 2) → AllBytes (plane t bit)
unfolding plane byte_of
all_bytes_plane t bit small =
    tabulate_bytes _ _
    (λ i.
    omega (arith, small (8 * i + 0), small (8 * i + 1), small (8 * i + 2), small (8 * i + 3), small (8 * i + 4), small (8 * i + 5), small (8 * i + 6), small (8 * i + 7)))

pub planes_bytes : (t : ℕ) (es : List ℕ) → AllBytes (planes_of t es)
unfolding planes_of
planes_bytes t es =
    bounded_append (plane t (λ (k : ℕ). entry_at es k % 2)) (plane t (λ (k : ℕ). entry_at es k / 2 % 2)) (all_bytes_plane t _ (λ k. omega arith)) (all_bytes_plane t _ (λ k. omega arith))
