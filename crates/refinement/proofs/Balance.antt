-- The log's calls answer the sum of the changes that the heap's calls in them answered, and open no file. This is seen from the programs alone, whatever the heap holds.
-- Assumes nothing.
use mathlib.Core.Path.{◌≡◌, refl, sym, ap, ◌∙◌}
use mathlib.Core.Logic.{◌≢◌}
use mathlib.Core.Bool.{Bool, true, false}
use mathlib.Core.List.{List, []}
use mathlib.Core.Option.{Option, some, none, none-ne-some}
use Prim.Native.Nat.{ℕ, zero, suc, ◌/◌}
use lib.Dec.{eqb, leb, ltb}
use lib.IntN.{ℤ, pos, ◌+ℤ◌, +ℤ_idl, +ℤ_idr}
use lib.ListN.{length}
use borrow.Author.Tests.{eqb-false}
use Rattle.rules.specs.Tests.{pick, both}
use Rattle.rules.specs.Pointers.{address_of, target_of}
use Rattle.rules.specs.Outcomes.{Answer}
use Rattle.rules.specs.Refusals.{whole_words}
use Rattle.rules.specs.Runs.{Call, Init, Allocate, Free, Reallocate, Collect, Survey, Load, Store, WriteImage, OpenImage, FileIs, starts_anew}
use Rattle.laws.specs.Meaning.{AllBytes}
use Rattle.laws.proofs.Refusals.{true_not_false}
use Rattle.programs.specs.Programs.{Program, give, ask}
use Rattle.logs.specs.Log.{Reply, decline, decline_if, is_accepted, Link, link_in, link_to, link_at, prepended, follow, on_log, checked, last_of, join, enter, append_to, append, at_index, read_from, read, drop_from, drop}

-- a call that changes no entry of the table
pub data Quiet : Call → Type 0 where
  survey : (base : ℕ) → Quiet (Survey base)
  load : (base k i : ℕ) → Quiet (Load base k i)
  store : (base k i w : ℕ) → Quiet (Store base k i w)

-- it does not start anew
pub quiet_old : {c : Call} → Quiet c → starts_anew c ≡ false
quiet_old (survey base) = refl
quiet_old (load base k i) = refl
quiet_old (store base k i w) = refl

-- a refused call answers no change
abbrev pub NoneRefused : Answer → Type 0
NoneRefused a = a.refusal ≢ 0 → a.change ≡ pos 0

-- the program answers the sum of the changes that its calls answer and of e before them
pub data Balanced : ℤ → Program Reply → Type 0 where
  gives : {e : ℤ} (y : Reply) → y.change ≡ e → Balanced e (give y)
  looks : {e : ℤ} {c : Call} {go : Answer → Program Reply} → Quiet c → ((a : Answer) → Balanced e (go a)) → Balanced e (ask c go)
  asks : {e : ℤ} {c : Call} {go : Answer → Program Reply} → starts_anew c ≡ false → ((a : Answer) → NoneRefused a → Balanced (e +ℤ a.change) (go a)) → Balanced e (ask c go)

-- ---- the parts of the log's calls

-- either way, knowing which
picked : {e : ℤ} (b : Bool) {x y : Program Reply} → (b ≡ true → Balanced e x) → (b ≡ false → Balanced e y) → Balanced e (pick b x y)
picked true p q = p refl
picked false p q = q refl

declined_if : {e : ℤ} (b : Bool) (r : ℕ) {x : Program Reply} → e ≡ pos 0 → Balanced e x → Balanced e (decline_if b r x)
declined_if true r z p = gives _ (sym z)
declined_if false r z p = p

link_balanced : {e : ℤ} (base : ℕ) (x : Option ℕ) (go : Option Link → Program Reply) → ((l : Option Link) → Balanced e (go l)) → Balanced e (link_to base x go)
unfolding link_to
link_balanced base none go p = p none
link_balanced base (some k) go p = looks (load base k 7) (λ a. looks (load base k 8) (λ b. looks (load base k 0) (λ c. p (link_in k a b c))))

follow_balanced : {e : ℤ} (base n w : ℕ) (go : Option (List ℕ) → Program Reply) → ((x : Option (List ℕ)) → Balanced e (go x)) → Balanced e (follow base n w go)
unfolding follow link_at
follow_balanced base zero w go p = p (pick (eqb w 0) (some []) none)
follow_balanced {e = e} base (suc n) w go p =
    let on : (l : Link) → Balanced e (follow base n l.next (λ ks. go (prepended l.head ks))) =
    λ l. follow_balanced base n l.next (λ ks. go (prepended l.head ks)) (λ ks. p (prepended l.head ks)) in
    picked (eqb w 0) (λ z. p (some [])) (λ z. link_balanced base (target_of base 4096 w) _ (then on))
  where
    then : ((l : Link) → Balanced e (follow base n l.next (λ ks. go (prepended l.head ks))))
        → (x : Option Link) → Balanced e (elim x [ none ↦ go none | some l ↦ follow base n l.next (λ ks. go (prepended l.head ks)) ])
    then on none = p none
    then on (some l) = on l

log_balanced : (base first : ℕ) (go : List ℕ → Program Reply) → ((ks : List ℕ) → Balanced (pos 0) (go ks)) → Balanced (pos 0) (on_log base first go)
unfolding on_log
log_balanced base first go p = follow_balanced base 4096 first _ then
  where
    then : (x : Option (List ℕ)) → Balanced (pos 0) (elim x [ none ↦ decline 18 | some ks ↦ go ks ])
    then none = gives _ refl
    then (some ks) = p ks

checked_balanced : (base : ℕ) (good : Bool) {next : Program Reply} → Balanced (pos 0) next → Balanced (pos 0) (checked base good next)
unfolding checked
checked_balanced base good p = picked good (λ z. looks (survey base) (λ s. picked (is_accepted s) (λ y. p) (λ y. gives _ refl))) (λ z. gives _ refl)

enter_balanced : {e : ℤ} (base first time tips : ℕ) (ks : List ℕ) (k : ℕ) (d : ℤ) → d ≡ e → Balanced e (enter base first time tips ks k d)
unfolding enter join
enter_balanced {e = e} base first time tips ks k d same = looks (store base k 1 time) (λ a. looks (store base k 2 tips) (λ b. last (last_of ks)))
  where
    last : (x : Option ℕ) → Balanced e (join base first x k d)
    last none = gives _ same
    last (some l) = looks (store base l 0 (address_of base k)) (λ a. gives _ same)

-- ---- the log's calls

-- what is known of an answer that was not accepted
not_accepted : (a : Answer) → NoneRefused a → is_accepted a ≡ false → a.change ≡ pos 0
not_accepted a none-refused e = none-refused (eqb-false _ _ e)

append_to_balanced : (base first time tips : ℕ) (roots ks : List ℕ) → Balanced (pos 0) (append_to base first time tips roots ks)
unfolding append_to
append_to_balanced base first time tips roots ks =
    asks refl
    (λ a n. picked (is_accepted a) (λ y. enter_balanced base first time tips ks a.block a.change (sym (+ℤ_idl a.change)))
    (λ y. asks refl
    (λ c u. asks refl
    (λ b v. picked (is_accepted b) (λ z. enter_balanced base first time tips ks b.block (c.change +ℤ b.change) (sym (before a c n y b.change)))
    (λ z. gives _ (sym (+ℤ_idr c.change) ∙ ap (λ (d : ℤ). c.change +ℤ d) (sym (not_accepted b v z)) ∙ sym (before a c n y b.change)))))))
  where
    before : (a c : Answer) → NoneRefused a → is_accepted a ≡ false → (d : ℤ) → pos 0 +ℤ a.change +ℤ c.change +ℤ d ≡ c.change +ℤ d
    before a c n y d = ap (λ (x : ℤ). pos 0 +ℤ x +ℤ c.change +ℤ d) (not_accepted a n y) ∙ ap (λ (x : ℤ). x +ℤ d) (+ℤ_idl c.change)

pub append_balanced : (base first time tips : ℕ) (roots stack : List ℕ) → Balanced (pos 0) (append base first time tips roots stack)
unfolding append
append_balanced base first time tips roots stack =
    checked_balanced base (both (whole_words roots) (whole_words stack))
    (declined_if (leb 4096 (length roots / 4)) 3 refl
    (declined_if (ltb 64 (length stack / 4)) 4 refl (log_balanced base first _ (append_to_balanced base first time tips roots))))

read_from_balanced : (base : ℕ) (x : Option ℕ) → Balanced (pos 0) (read_from base x)
unfolding read_from
read_from_balanced base none = gives _ refl
read_from_balanced base (some k) = looks (load base k 1) (λ a. looks (load base k 2) (λ b. gives _ refl))

pub read_balanced : (base first index : ℕ) → Balanced (pos 0) (read base first index)
unfolding read
read_balanced base first index = checked_balanced base true (log_balanced base first _ (λ ks. read_from_balanced base (at_index ks index)))

drop_from_balanced : (base : ℕ) (x : Option ℕ) → Balanced (pos 0) (drop_from base x)
unfolding drop_from
drop_from_balanced base none = gives _ refl
drop_from_balanced base (some k) = looks (load base k 0) (λ a. asks refl (λ b n. gives _ (sym (+ℤ_idl b.change))))

pub drop_balanced : (base first : ℕ) → Balanced (pos 0) (drop base first)
unfolding drop
drop_balanced base first = checked_balanced base true (log_balanced base first _ (λ ks. drop_from_balanced base (at_index ks 0)))

-- ---- files

-- a call that does not start anew opens no file
pub opens_none : (c : Call) → starts_anew c ≡ false → FileIs AllBytes c
opens_none (Init base) e image q = absurd (true_not_false refl e)
opens_none (Allocate base bytes) e image q = absurd (none-ne-some image q)
opens_none (Free base k) e image q = absurd (none-ne-some image q)
opens_none (Reallocate base k bytes) e image q = absurd (none-ne-some image q)
opens_none (Collect base roots) e image q = absurd (none-ne-some image q)
opens_none (Survey base) e image q = absurd (none-ne-some image q)
opens_none (Load base k i) e image q = absurd (none-ne-some image q)
opens_none (Store base k i w) e image q = absurd (none-ne-some image q)
opens_none (WriteImage base roots room) e image q = absurd (none-ne-some image q)
opens_none (OpenImage file room) e image q = absurd (true_not_false refl e)
