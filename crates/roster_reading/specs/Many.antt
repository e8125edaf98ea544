-- Lists in a row, each read and marked in a row of the table; and a section of them with its count.
use Prim.Native.Nat.{ℕ, suc, ◌+◌, ◌*◌, ◌-◌, ◌/◌, ◌≤◌, ◌<◌}
use native.Mathlib.Omega.{arith}
use Rattle.std.proofs.Math.Nat.{mul-div_cancel_left}
use Rattle.std.specs.Prelude.{◌≡◌, refl, ◌⊎◌, Bool, cond, not, List, [], ◌∷◌, ◌++◌, T, eqb}
use Rattle.std.proofs.Math.Path.{sym, ap, subst}
use Rattle.std.proofs.Common.{◌∙◌, ⊎_elim, append_assoc, append-nil, length-append, eq-eqb, ne_eqb}
use Rattle.std.proofs.Math.ListN.{length, drop, length-drop}
use Rattle.lists.specs.Test.{given, by-eq}
use Rattle.lists.specs.Keep.{gather}
use Rattle.model.specs.Limits.{entry_limit}
use Rattle.model.specs.Reading.{Reading, accepted, refused, ◌then◌, refuse_if, read_each}
use Rattle.model.specs.Roster.{Entry}
use Rattle.model.specs.RosterFile.{read_many, read_section}
use Rattle.theory_files.specs.Reads.{is_bytes, Reads, each, read_value}
use Rattle.roster_reading.specs.Place.{placed, place_refused, place_read}
use Rattle.roster_reading.specs.Field.{wide, wide_end, wide_long, wide_goes}
use Rattle.roster_reading.specs.Slot.{row_width}
use Rattle.roster_reading.specs.Row.{Shows, Marked, marked_as, marked_refused}
use Rattle.roster_reading.specs.Table.{with_row, Shown, row_more}

then_id : {A : Type 0} (r : Reading (A × List ℕ)) → r ≡ (r then (λ a rest. accepted (a, rest)))
then_id (accepted (a, rest)) = refl
then_id (refused n) = refl

module _ {A : Type 0} (field : List ℕ → Reading (A × List ℕ)) (entries : A → List Entry) (none : A) (f : List ℕ) (start n : ℕ) where
  -- after k of the lists: these are read, their rows are marked, and the others are read from the place `at` on
  pub record Turn (at k : ℕ) (table : List Bool) : Type 0 where
    pub lists : List A
    pub reads : read_many field n (drop start f) ≡ (read_many field (n - k) (drop at f) then (λ xs rest. accepted (lists ++ xs, rest)))
    pub count : length lists ≡ k
    pub shown : Shown entries none table lists

  -- before the first list, with a table in which no mark is set
  pub turn_start : {table : List Bool} → Shown entries none table [] → Turn start 0 table
  turn_start h =
      let e : n - 0 ≡ n = omega arith in
      record { lists = []; reads = rw e (then_id (read_many field n (drop start f))); count = refl; shown = h }

  step : (k : ℕ) (bs : List ℕ) → k < n
      → read_many field (n - k) bs ≡ (field bs then (λ x rest. read_many field (n - (k + 1)) rest then (λ xs rest. accepted (x ∷ xs, rest))))
  unfolding read_each
  step k bs h = let e : n - k ≡ suc (n - (k + 1)) = omega arith in rw e

  -- a refusal of the next list is that of all
  pub turn_refused : {at k : ℕ} {table after : List Bool} {shows : List Bool → A → Type 0} {row : List Bool} {m : ℕ} → Turn at k table → k < n
      → Marked field shows f at (refused m) row → Marked (read_many field n) (Shown entries none) f start (refused m) after
  turn_refused {at} {k} {m = m} t h c =
      let e = place_refused f (field (drop at f)) c.place in
      marked_refused
      (t.reads
      ∙ ap (λ r. r then (λ xs rest. accepted (t.lists ++ xs, rest)))
      (step k (drop at f) h ∙ ap (λ r. r then (λ x rest. read_many field (n - (k + 1)) rest then (λ xs rest. accepted (x ∷ xs, rest)))) e))

  -- after n lists the answer is the place behind the last one, and the table shows them
  pub turn_end : {at k : ℕ} {table : List Bool} → Turn at k table → n ≤ k → at ≤ length f
      → Marked (read_many field n) (Shown entries none) f start (accepted at) table
  unfolding read_each
  turn_end {at} {k} {table} t h l =
      let z : n - k ≡ 0 = omega arith in
      let e : read_many field n (drop start f) ≡ accepted (t.lists, drop at f) = t.reads ∙ rw (z, append-nil) in
      let p : at ≡ length f - length (drop at f) = simp length-drop (omega arith) in
      record {
        place = ap accepted p ∙ sym (ap (placed f) e);
        marks = λ ls rest d. subst (Shown entries none table) (read_value (sym e ∙ d)) t.shown;
      }

  module _ (empty : entries none ≡ []) {write : A → List ℕ} {P : A → Type 0} (R : Reads field write P) (is_b : T (is_bytes f)) where
    -- the next list is read, and its row is put into the table: one list more
    pub turn_next : {at k next : ℕ} {table row : List Bool} → Turn at k table → k < n → at ≤ length f → k * row_width + row_width ≤ length table
        → length row ≡ row_width
        → Marked field (λ row a. Shows row (entries a)) f at (accepted next) row → (next ≤ length f) × Turn next (k + 1) (with_row table k row)
    turn_next {at} {k} {next} {table} {row} t h l room w c =
        given (place_read R f at is_b l c.place) (λ x. (
          x.within,
          record {
            lists = t.lists ++ x.value ∷ [];
            reads =
                t.reads
                ∙ ap (λ r. r then (λ xs rest. accepted (t.lists ++ xs, rest)))
                (step k (drop at f) h
                ∙ ap (λ r. r then (λ x rest. read_many field (n - (k + 1)) rest then (λ xs rest. accepted (x ∷ xs, rest)))) x.is)
                ∙ joined x.value t.lists (read_many field (n - (k + 1)) (drop next f));
            count = simp length-append (omega (arith, t.count));
            shown = row_more entries none empty table row t.lists x.value k t.shown t.count room w (c.marks x.value (drop next f) x.is);
          },
        ))
      where
        joined : (x : A) (ls : List A) (r : Reading (List A × List ℕ))
            → (r then (λ xs rest. accepted (x ∷ xs, rest)) then (λ xs rest. accepted (ls ++ xs, rest))) ≡ (r then
            (λ xs rest. accepted ((ls ++ x ∷ []) ++ xs, rest)))
        joined x ls (accepted (xs, rest)) = ap (λ z. accepted (z, rest)) (sym (append_assoc ls (x ∷ []) xs))
        joined x ls (refused m) = refl

-- ---- a section: its count, the lists, and then the count against the sum of their lengths. The lists take their entries, w bytes each, and
-- as many length bytes as `heads` says, so that the sum shows in the place behind them.
-- what the count tells: the place behind the section, or the refusal of the count
abbrev pub Told : (w : ℕ) (f : List ℕ) (at heads : ℕ) → Reading ℕ → Type 0
Told w f at heads (accepted end) = (at + 1 < length f) × (wide f at ≤ entry_limit) × (end ≡ at + 2 + heads + w * wide f at)
Told w f at heads (refused m) = ((m ≡ 1) × (length f < at + 2)) ⊎ ((m ≡ 2) × (at + 1 < length f) × (entry_limit < wide f at))

-- a count that tells the place behind the section has its two bytes in the file
pub told_room : (w : ℕ) (f : List ℕ) (at heads : ℕ) (r : Reading ℕ) → Told w f at heads r → {end : ℕ} → r ≡ accepted end → at + 2 ≤ length f
told_room w f at heads r t q = given (subst (Told w f at heads) q t) (λ (h, k, e). omega arith)

-- the answer of the lists, if they end at the place told
abbrev pub ended_at : Reading ℕ → ℕ → Reading ℕ
ended_at (accepted stop) end = cond (eqb stop end) (accepted stop) (refused 7)
ended_at (refused m) end = refused m

module _ {A : Type 0} (field : List ℕ → Reading (A × List ℕ)) (total : List A → ℕ) (f : List ℕ) (at n : ℕ) where
  abbrev summed : ℕ → List A → List ℕ → Reading (List A × List ℕ)
  summed w xs rest = refuse_if (not (eqb w (total xs))) 7 (accepted (xs, rest))

  abbrev behind : ℕ → List ℕ → Reading (List A × List ℕ)
  behind w rest = read_many field n rest then summed w

  section_cut : {shows : List Bool → List A → Type 0} {after : List Bool} → length f < at + 2
      → Marked (read_section field total n) shows f at (refused 1) after
  section_cut h = marked_refused (wide_end f at behind h)

  section_long : {shows : List Bool → List A → Type 0} {after : List Bool} → at + 1 < length f → entry_limit < wide f at
      → Marked (read_section field total n) shows f at (refused 2) after
  section_long h k = marked_refused (wide_long f at behind h k)

  module _ (room : at + 1 < length f) (small : wide f at ≤ entry_limit) {shows : List Bool → List A → Type 0} {after : List Bool} where
    section_refused : {m : ℕ} → Marked (read_many field n) shows f (at + 2) (refused m) after
        → Marked (read_section field total n) shows f at (refused m) after
    section_refused c =
        marked_refused
        (wide_goes f at behind room small ∙ ap (λ r. r then summed (wide f at)) (place_refused f (read_many field n (drop (at + 2) f)) c.place))

    module _ {write : A → List ℕ} {P : A → Type 0} (R : Reads field write P) (is_b : T (is_bytes f)) (w heads : ℕ) (some : 0 < w)
        (sizes : (ls : List A) → length ls ≡ n → length (gather write ls) ≡ heads + w * total ls)
        {end : ℕ} (c : Marked (read_many field n) shows f (at + 2) (accepted end) after) where
      found : (ls : List A) × (read_many field n (drop (at + 2) f) ≡ accepted (ls, drop end f)) × (end ≡ at + 2 + (heads + w * total ls)) × (end ≤ length f)
      found = given (place_read (each R (λ s x. 0) (λ s x. s) n tt) f (at + 2) is_b (omega arith) c.place) (λ x.
          (x.value, x.is, x.size ∙ ap (λ k. at + 2 + k) (sizes x.value x.fits.0), x.within))

      section_sum : end ≡ at + 2 + heads + w * wide f at → Marked (read_section field total n) shows f at (accepted end) after
      section_sum e = given found (λ (ls, d, l, b).
          let d₂ : w * wide f at ≡ w * total ls = omega arith in
          let t : wide f at ≡ total ls = sym (mul-div_cancel_left (wide f at) some) ∙ ap (λ k. k / w) d₂ ∙ mul-div_cancel_left (total ls) some in
          let p : end ≡ length f - length (drop end f) = simp length-drop (omega arith) in
          let g : read_section field total n (drop at f) ≡ accepted (ls, drop end f) =
          wide_goes f at behind room small ∙ ap (λ r. r then summed (wide f at)) d ∙ simp (eq-eqb (wide f at) (total ls) t) in
          record {
            place = ap accepted p ∙ sym (ap (placed f) g);
            marks = λ xs rest q. subst (shows after) (read_value (sym g ∙ q)) (c.marks ls (drop end f) d);
          })

      section_uneven : (end ≡ at + 2 + heads + w * wide f at → ⊥) → Marked (read_section field total n) shows f at (refused 7) after
      section_uneven e = given found (λ (ls, d, l, b).
          marked_refused
          (wide_goes f at behind room small ∙ ap (λ r. r then summed (wide f at)) d
          ∙ simp (ne_eqb (wide f at) (total ls) (λ (q : wide f at ≡ total ls). e (omega (arith, ap (λ k. w * k) q))))))

  module _ (w heads : ℕ) (r : Reading ℕ) (told : Told w f at heads r) {shows : List Bool → List A → Type 0} {after : List Bool} where
    -- a refusal of the count is that of the section
    pub section_untold : {m : ℕ} → r ≡ refused m → Marked (read_section field total n) shows f at r after
    section_untold {m} q = marked_as (sym q) (⊎_elim
        (λ (e, h). marked_as (ap refused (sym e)) (section_cut h))
        (λ (e, h, k). marked_as (ap refused (sym e)) (section_long h k))
        (subst (Told w f at heads) q told))

    -- behind a count that tells the section's end, the answer is that of the lists, or 7 where they end at another place
    pub section_ends : {write : A → List ℕ} {P : A → Type 0} → Reads field write P → T (is_bytes f) → 0 < w
        → ((ls : List A) → length ls ≡ n → length (gather write ls) ≡ heads + w * total ls)
        → {end : ℕ} → r ≡ accepted end → (s : Reading ℕ) → Marked (read_many field n) shows f (at + 2) s after
        → Marked (read_section field total n) shows f at (ended_at s end) after
    section_ends R is_b some sizes {end} q = go (subst (Told w f at heads) q told)
      where
        go : Told w f at heads (accepted end) → (s : Reading ℕ) → Marked (read_many field n) shows f (at + 2) s after
            → Marked (read_section field total n) shows f at (ended_at s end) after
        go (h, k, e) (refused m) c = section_refused h k c
        go (h, k, e) (accepted stop) c = by-eq stop end
            (λ i t. rw t (section_sum h k R is_b w heads some sizes c (i ∙ e)))
            (λ i t. rw t (section_uneven h k R is_b w heads some sizes c (λ z. i (z ∙ sym e))))
