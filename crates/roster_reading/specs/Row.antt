-- Marks for the entries that a list has: how the code finds an entry twice in one list, and a pair in one side's list only.
use Prim.Native.Nat.{ℕ, zero, suc, ◌+◌, ◌-◌, ◌*◌, ◌≤◌, ◌<◌}
use Rattle.std.proofs.Common.{arith, not-suc-le-zero, add-one, sym, ap₂, ◌∙◌, subst, take-suc, take_all, get_or-set_same, get_or-set_other}
use Rattle.std.specs.Prelude.{◌≡◌, Bool, true, false, not, cond, ◌||◌, length, take, drop, get_or, set, T, eqb}
use Rattle.std.proofs.Math.Path.{refl, ap}
use mathlib.Core.List.{List, [], ◌∷◌, ◌++◌, append_assoc}
use Rattle.lists.specs.Test.{given, by-eq, by-test, T_true, and_i}
use Rattle.lists.specs.Keep.{any_append}
use Rattle.model.specs.Limits.{shift_limit}
use Rattle.model.specs.Reading.{Reading, accepted, refused, ◌then◌, refuse_by, read_each}
use Rattle.model.specs.Roster.{Entry, same, has, before, outside, no_entry}
use Rattle.model.specs.RosterFile.{entry_refusal, entry_check, Tie, read_entries}
use Rattle.theory_files.specs.Entries.{cond_zero, in_range_law}
use Rattle.theory_files.specs.Reads.{refused-not, then_read, read_value}
use Rattle.roster_reading.specs.Place.{placed}
use Rattle.roster_reading.specs.Check.{first_of, refusal_of, refusal_step, whole_fields, part_answer, part_is, part_read}
use Rattle.roster_reading.specs.Layout.{layout_of, width_of, fixed_entry, entries_in}
use Rattle.roster_reading.specs.Slot.{slot_of, at_slot, HasSlot, at_slot_law, same_slot}

-- the marks show a list: a place is marked where the list has its entry
abbrev pub Shows : List Bool → List Entry → Type 0
Shows row seen = (k : ℕ) → get_or row k false ≡ has (at_slot k) seen

-- so the mark of an entry in range tells whether the list has it
pub shows_at : (row : List Bool) (seen : List Entry) (x : Entry) → Shows row seen → HasSlot x → get_or row (slot_of x) false ≡ has x seen
shows_at row seen x h p = h (slot_of x) ∙ ap (λ y. has y seen) (at_slot_law x p)

pub mark_more : (row : List Bool) (seen : List Entry) (x : Entry) → Shows row seen → HasSlot x → slot_of x < length row
    → Shows (set row (slot_of x) true) (seen ++ x ∷ [])
mark_more row seen x h p l k = rw (any_append (same (at_slot k)) seen (x ∷ []), same_slot x p k) (by-eq k (slot_of x) here other)
  where
    or_true : (b : Bool) → true ≡ b || true
    or_true true = refl
    or_true false = refl

    or_false : (b : Bool) → b ≡ b || false
    or_false true = refl
    or_false false = refl

    here : k ≡ slot_of x → eqb k (slot_of x) ≡ true → get_or (set row (slot_of x) true) k false ≡ has (at_slot k) seen || (eqb k (slot_of x) || false)
    here e t =
        ap (λ i. get_or (set row (slot_of x) true) i false) e ∙ get_or-set_same row (slot_of x) true false l ∙ or_true (has (at_slot k) seen)
        ∙ ap (λ b. has (at_slot k) seen || (b || false)) (sym t)

    other : (k ≡ slot_of x → ⊥) → eqb k (slot_of x) ≡ false
        → get_or (set row (slot_of x) true) k false ≡ has (at_slot k) seen || (eqb k (slot_of x) || false)
    other n t =
        get_or-set_other row (slot_of x) k true false n ∙ h k ∙ or_false (has (at_slot k) seen) ∙ ap (λ b. has (at_slot k) seen || (b || false)) (sym t)

-- one entry more has been passed
pub seen_more : (seen xs : List Entry) (i : ℕ) → i < length xs → (seen ++ take i xs) ++ get_or xs i no_entry ∷ [] ≡ seen ++ take (i + 1) xs
seen_more seen xs i h = append_assoc seen (take i xs) (get_or xs i no_entry ∷ []) ∙ ap (λ l. seen ++ l) (rw (add-one) (sym (take-suc xs i no_entry h)))

-- entry i gets its mark: the marks show one entry more
pub mark_passed : (row : List Bool) (seen xs : List Entry) (i : ℕ) (x : Entry) → x ≡ get_or xs i no_entry → Shows row (seen ++ take i xs) → i < length xs
    → HasSlot x → slot_of x < length row
    → Shows (set row (slot_of x) true) (seen ++ take (i + 1) xs)
mark_passed row seen xs i x e h l p room =
    subst (Shows (set row (slot_of x) true)) (ap (λ y. (seen ++ take i xs) ++ y ∷ []) e ∙ seen_more seen xs i l)
    (mark_more row (seen ++ take i xs) x h p room)

-- all have been passed
pub seen_all : (row : List Bool) (seen xs : List Entry) (i : ℕ) → Shows row (seen ++ take i xs) → length xs ≤ i → Shows row (seen ++ xs)
seen_all row seen xs i h l = subst (λ p. Shows row (seen ++ p)) (take_all i xs l) h

-- ---- the check of an entry in a list, behind those seen before: outside a tie it is `entry_check`, in a tie, where it must also ascend,
-- `tied_check`
abbrev pub list_check : (tied : Bool) (other : ℕ) → Tie → Entry → ℕ
list_check tied other s x = entry_refusal other x (cond (has x s.seen) 5 (cond (not tied || before s.last x) 0 6))

-- what the next entry is checked against: this one is seen too, and is the last
abbrev pub passed : Tie → Entry → Tie
passed s x = record { seen = s.seen ++ x ∷ []; last = x }

-- before the first entry of a part
abbrev pub behind : List Entry → Tie
behind seen = record { seen = seen; last = no_entry }

-- by the marks of the entries before it
abbrev pub mark_check : (tied : Bool) (other : ℕ) (row : List Bool) (last x : Entry) → ℕ
mark_check tied other row last x = entry_refusal other x (cond (get_or row (slot_of x) false) 5 (cond (not tied || before last x) 0 6))

has_slot : (other : ℕ) (x : Entry) → T (not (outside other x.number)) → T (not (outside shift_limit x.shift)) → HasSlot x × (x.number ≤ other)
has_slot other x a b =
    given (in_range_law other x (and_i (not (outside other x.number)) (not (outside shift_limit x.shift)) a b)) (λ (p, q, u, v). ((p, u, v), q))

-- an entry that the check by marks lets pass has a place in the row, and its number is not above the other side's count
pub mark_in_range : (tied : Bool) (other : ℕ) (row : List Bool) (last x : Entry) (r : ℕ) → r ≡ mark_check tied other row last x → r ≡ 0
    → HasSlot x × (x.number ≤ other)
mark_in_range tied other row last x r e z =
    given (cond_zero (outside other x.number) 3 (sym e ∙ z)) (λ (a, h).
    given (cond_zero (outside shift_limit x.shift) 17 h) (λ (b, z). has_slot other x a b))

pub mark_check_law : (tied : Bool) (other : ℕ) (row : List Bool) (seen : List Entry) (last x : Entry) → Shows row seen
    → mark_check tied other row last x ≡ list_check tied other (record { seen = seen; last = last }) x
mark_check_law tied other row seen last x h =
    by-test (outside other x.number) (λ t. simp (T_true {b = outside other x.number} t)) (λ a.
    by-test (outside shift_limit x.shift) (λ t. simp (T_true {b = outside shift_limit x.shift} t)) (λ b.
    ap (λ m. entry_refusal other x (cond m 5 (cond (not tied || before last x) 0 6))) (shows_at row seen x h (has_slot other x a b).0)))

-- entries in a row: the number of the first refusal is the model's, 0 for none; then the marks show the entries too
pub record Checked (refusal : ℕ) (entries : List Entry) (r : ℕ) (after : List Bool) : Type 0 where
  pub number : r ≡ refusal
  pub marks : r ≡ 0 → Shows after entries

-- the entries xs, behind whatever the marks show: the number is that of their first refusal, and with none the marks show them too
abbrev pub EntriesChecked : (tied : Bool) (other : ℕ) (xs : List Entry) (before : List Bool) (r : ℕ) (after : List Bool) → Type 0
EntriesChecked tied other xs before r after =
    (seen : List Entry) → Shows before seen → Checked (refusal_of (list_check tied other) passed (behind seen) xs) (seen ++ xs) r after

-- one entry is checked by its mark, the others follow
pub check_step : (tied : Bool) (other : ℕ) (row : List Bool) (seen xs : List Entry) (i : ℕ) (last x : Entry) (r : ℕ) → i < length xs → x ≡ get_or xs i no_entry
    → r ≡ mark_check tied other row last x → Shows row (seen ++ take i xs)
    → refusal_of (list_check tied other) passed (record { seen = seen ++ take i xs; last = last }) (drop i xs)
    ≡ first_of r (refusal_of (list_check tied other) passed (record { seen = seen ++ take (i + 1) xs; last = x }) (drop (i + 1) xs))
check_step tied other row seen xs i last x r l e m h =
    let s : Tie = record { seen = seen ++ take i xs; last = last } in
    refusal_step (list_check tied other) passed no_entry s xs i l
    ∙ ap (λ y. first_of (list_check tied other s y) (refusal_of (list_check tied other) passed (passed s y) (drop (i + 1) xs))) (sym e)
    ∙ ap₂ (λ c z. first_of c (refusal_of (list_check tied other) passed (record { seen = z; last = x }) (drop (i + 1) xs)))
    (sym (m ∙ mark_check_law tied other row (seen ++ take i xs) last x h)) (ap (λ y. (seen ++ take i xs) ++ y ∷ []) e ∙ seen_more seen xs i l)

-- a refusal that comes first is the answer, and then nothing is asked of the marks
pub checked_no : (r : ℕ) {refusal : ℕ} (rest : ℕ) {entries : List Entry} {after : List Bool} → 0 < r → refusal ≡ first_of r rest
    → Checked refusal entries r after
checked_no zero rest h e = absurd (not-suc-le-zero h)
checked_no (suc r) rest h e = record { number = sym e; marks = λ z. absurd (let f : ⊥ = omega arith in f) }

-- ---- a reader that marks what it reads: its answer is the model's, and where it reads a value, the marks show it
pub record Marked {A : Type 0} (read : List ℕ → Reading (A × List ℕ)) (shows : List Bool → A → Type 0) (f : List ℕ) (at : ℕ) (r : Reading ℕ)
    (after : List Bool) : Type 0 where
  pub place : r ≡ placed f (read (drop at f))
  pub marks : (a : A) (rest : List ℕ) → read (drop at f) ≡ accepted (a, rest) → shows after a

module _ {A : Type 0} {read : List ℕ → Reading (A × List ℕ)} {shows : List Bool → A → Type 0} {f : List ℕ} {at : ℕ} {after : List Bool} where
  pub marked_refused : {n : ℕ} → read (drop at f) ≡ refused n → Marked read shows f at (refused n) after
  marked_refused e = record { place = sym (ap (placed f) e); marks = λ a rest d. refused-not (sym e ∙ d) }

  -- the same for an answer that is equal
  pub marked_as : {r r' : Reading ℕ} → r ≡ r' → Marked read shows f at r after → Marked read shows f at r' after
  marked_as e m = subst (λ z. Marked read shows f at z after) e m

  -- behind a count
  pub marked_behind : {other : List ℕ → Reading (A × List ℕ)} {next : ℕ} {r : Reading ℕ} → read (drop at f) ≡ other (drop next f)
      → Marked other shows f next r after → Marked read shows f at r after
  marked_behind e m = record { place = m.place ∙ sym (ap (placed f) e); marks = λ a rest d. m.marks a rest (sym e ∙ d) }

-- the same for a reader that is equal
pub marked_by : {A : Type 0} {read read' : List ℕ → Reading (A × List ℕ)} {shows : List Bool → A → Type 0} {f : List ℕ} {at : ℕ} {r : Reading ℕ}
    {after : List Bool}
    → read ≡ read' → Marked read shows f at r after → Marked read' shows f at r after
marked_by {shows = shows} {f} {at} {r} {after} e m = subst (λ z. Marked z shows f at r after) e m

-- what is made of the value read
pub marked_map : {A B : Type 0} (read : List ℕ → Reading (A × List ℕ)) (g : A → B) {shows : List Bool → B → Type 0} {f : List ℕ} {at : ℕ}
    {r : Reading ℕ} {after : List Bool}
    → Marked read (λ m a. shows m (g a)) f at r after → Marked (λ bs. read bs then (λ a rest. accepted (g a, rest))) shows f at r after
marked_map {A} {B} read g {shows} {f} {at} {r} {after} m = record {
  place = m.place ∙ same (read (drop at f));
  marks =
      λ b rest d. given (then_read (read (drop at f)) (λ a rest. accepted (g a, rest)) d)
      (λ (a, mid, e, k). subst (shows after) (read_value k) (m.marks a mid e));
}
  where
    same : (x : Reading (A × List ℕ)) → placed f x ≡ placed f (x then (λ a rest. accepted (g a, rest)))
    same (accepted (a, rest)) = refl
    same (refused n) = refl

-- n entries from a place on, behind those seen before: the part that holds them is checked
abbrev pub EntriesAt : (shifts tied : Bool) (other n : ℕ) (f : List ℕ) (at : ℕ) (before : List Bool) (r : Reading ℕ) (after : List Bool) → Type 0
EntriesAt shifts tied other n f at before r after =
    (seen : List Entry) → Shows before seen
    → Marked (read_each (layout_of shifts).field (list_check tied other) passed n (behind seen)) (λ row xs. Shows row (seen ++ xs)) f at r after

-- the check of the part that holds the whole entries gives the answer for n entries from the place on
pub marked_part : (shifts tied : Bool) (other : ℕ) (f : List ℕ) (at n k e m : ℕ) (before after : List Bool) → at ≤ length f
    → k ≡ whole_fields (width_of shifts) (length f) at n → e ≡ at + width_of shifts * k
    → EntriesChecked tied other (entries_in shifts k (take (e - at) (drop at f))) before m after
    → EntriesAt shifts tied other n f at before (part_answer m k n e) after
marked_part shifts tied other f at n k e m before after h q d checked seen p = given (checked seen p) (λ c. record {
  place = ap (λ z. part_answer z k n e) c.number ∙ part_is (list_check tied other) passed (fixed_entry shifts) (behind seen) f at n k e h q d;
  marks =
      λ xs rest g. given (part_read (list_check tied other) passed (fixed_entry shifts) (behind seen) f at n k e h q d g)
      (λ (z, w). subst (λ l. Shows after (seen ++ l)) (sym w) (c.marks (c.number ∙ z)));
})

-- outside a tie, what was last does not count
module _ (field : List ℕ → Reading (Entry × List ℕ)) (other : ℕ) where
  abbrev strictly : ℕ → List Entry → List ℕ → Reading (List Entry × List ℕ)
  strictly n seen bs = read_each field (entry_check other) (λ seen x. seen ++ x ∷ []) n seen bs

  abbrev loosely : ℕ → Tie → List ℕ → Reading (List Entry × List ℕ)
  loosely n s bs = read_each field (list_check false other) passed n s bs

  abbrev onto : Entry → List Entry → List ℕ → Reading (List Entry × List ℕ)
  onto x xs rest = accepted (x ∷ xs, rest)

  each_seen : (n : ℕ) (s : Tie) (bs : List ℕ) → strictly n s.seen bs ≡ loosely n s bs
  unfolding read_each
  each_seen zero s bs = refl
  each_seen (suc n) s bs = go (field bs) (λ x rest. each_seen n (passed s x) rest)
    where
      go : (r : Reading (Entry × List ℕ)) → ((x : Entry) (rest : List ℕ) → strictly n (s.seen ++ x ∷ []) rest ≡ loosely n (passed s x) rest)
          → (r then (λ x rest. refuse_by (entry_check other s.seen x) (strictly n (s.seen ++ x ∷ []) rest then onto x)))
          ≡ (r then (λ x rest. refuse_by (entry_check other s.seen x) (loosely n (passed s x) rest then onto x)))
      go (accepted (x, rest)) h = ap (λ r. refuse_by (entry_check other s.seen x) (r then onto x)) (h x rest)
      go (refused m) h = refl

-- the strict entries of a list, from its first on
pub entries_first : (shifts : Bool) (other n : ℕ) {f : List ℕ} {at : ℕ} (before : List Bool) {after : List Bool} {r : Reading ℕ} → Shows before []
    → EntriesAt shifts false other n f at before r after → Marked (read_entries (layout_of shifts) other n) Shows f at r after
entries_first shifts other n {f} {at} before h m =
    marked_behind {other = read_each (layout_of shifts).field (list_check false other) passed n (behind [])} {next = at}
    (each_seen (layout_of shifts).field other n (behind []) (drop at f)) (m [] h)
