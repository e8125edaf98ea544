-- Roster files in a layout: accepted bytes are written back to the same bytes, a roster within the layout's limits, whose entries it can
-- hold, is read back the same, and an accepted file has at most 4,262 bytes with shifts and 2,214 without.
use Rattle.std.specs.Prelude.{ℕ, ◌+◌, ◌*◌, ◌≤◌, ◌≡◌, refl, Bool, true, false, ◌&&◌, length, T, eqb, leb}
use native.Mathlib.Omega.{arith}
use Rattle.std.proofs.Math.Nat.{mul-le-mul_left}
use Rattle.std.proofs.Common.{sym, ◌∙◌, eqb→eq}
use Rattle.std.proofs.Math.Path.{ap, subst}
use Rattle.std.proofs.Math.Bool.{cond}
use mathlib.Core.List.{List, [], ◌∷◌, ◌++◌, append_assoc, append-nil}
use Rattle.std.proofs.Math.ListN.{length-append}
use Rattle.std.proofs.Math.Dec.{leb→le}
use Rattle.lists.specs.Test.{given, T_true, true_t, and_l, and_r, and_i, eq→eqb}
use Rattle.lists.specs.Keep.{all?, gather}
use Rattle.model.specs.Limits.{node_limit, entry_limit, list_limit, roster_size}
use Rattle.model.specs.Reading.{Reading, accepted, ◌then◌, refused, whole}
use Rattle.model.specs.Roster.{Entry, Ranking, Roster, entries, surveyor_count, stand_count, total_s, total_t, quotas_fit, list_fits, ranking_fits}
use Rattle.model.specs.Roster.{both_or_neither, fits_by, fits}
use Rattle.model.specs.RosterFile.{Layout, shifted, read_nodes, read_list, read_ranking, read_section, read_sections, one_sided, read_roster_by}
use Rattle.model.specs.RosterFile.{read_roster, wide_bytes, list_bytes, entries_bytes, ranking_bytes, write_roster_by, write_roster}
use Rattle.theory_files.specs.Reads.{is_bytes, rest_bytes, read_value, read_rest, then_read, accepted_value, refused-not, whole_accepted}
use Rattle.theory_files.specs.Layouts.{Agrees, in_shifted}
use Rattle.theory_files.specs.Sections.{nodes, held, list_held, ranking_held, list, ranking, SectionFits, section}

-- ---- within the limits, but for the pairs that one side alone lists
abbrev pub lists_fit : (longest : ℕ → ℕ) (ns nt : ℕ) → List (List Entry) → Type 0
lists_fit longest ns nt = SectionFits (list_fits (longest nt) nt) total_s ns

abbrev pub rankings_fit : (longest : ℕ → ℕ) (ns nt : ℕ) → List Ranking → Type 0
rankings_fit longest ns nt = SectionFits (ranking_fits (longest ns) ns) total_t nt

abbrev pub SectionsFit : (ℕ → ℕ) → Roster → Type 0
SectionsFit longest r = T (quotas_fit r.quotas_s) × T (quotas_fit r.quotas_t)
    × lists_fit longest (surveyor_count r) (stand_count r) r.lists_s × rankings_fit longest (surveyor_count r) (stand_count r) r.lists_t

-- ---- `fits_by`, taken apart and put together
-- a roster within the limits: its four sections are, and each pair is in both lists or in neither
pub fits_parts_by : (longest : ℕ → ℕ) (r : Roster) → T (fits_by longest r) → SectionsFit longest r × T (both_or_neither r)
unfolding fits_by
fits_parts_by longest r t =
    let a = quotas_fit r.quotas_s in
    let b = quotas_fit r.quotas_t in
    let c = eqb (length r.lists_s) (surveyor_count r) in
    let d = all? (list_fits (longest (stand_count r)) (stand_count r)) r.lists_s in
    let e = leb (total_s r.lists_s) entry_limit in
    let f = eqb (length r.lists_t) (stand_count r) in
    let g = all? (ranking_fits (longest (surveyor_count r)) (surveyor_count r)) r.lists_t in
    let h = leb (total_t r.lists_t) entry_limit in
    let ab = and_l (a && b) ((c && (d && e)) && ((f && (g && h)) && both_or_neither r)) t in
    let u = and_r (a && b) ((c && (d && e)) && ((f && (g && h)) && both_or_neither r)) t in
    let cde = and_l (c && (d && e)) ((f && (g && h)) && both_or_neither r) u in
    let v = and_r (c && (d && e)) ((f && (g && h)) && both_or_neither r) u in
    let fgh = and_l (f && (g && h)) (both_or_neither r) v in (
      (
        and_l a b ab,
        and_r a b ab,
        (eqb→eq (length r.lists_s) (surveyor_count r) (and_l c (d && e) cde), and_l d e (and_r c (d && e) cde), and_r d e (and_r c (d && e) cde)),
        (eqb→eq (length r.lists_t) (stand_count r) (and_l f (g && h) fgh), and_l g h (and_r f (g && h) fgh), and_r g h (and_r f (g && h) fgh)),
      ),
      and_r (f && (g && h)) (both_or_neither r) v,
    )

pub parts_fit_by : (longest : ℕ → ℕ) (r : Roster) → SectionsFit longest r → T (both_or_neither r) → T (fits_by longest r)
unfolding fits_by
parts_fit_by longest r (a, b, (c, d, e), (f, g, h)) n =
    let count_s = eqb (length r.lists_s) (surveyor_count r) in
    let fit_s = all? (list_fits (longest (stand_count r)) (stand_count r)) r.lists_s in
    let fewS = leb (total_s r.lists_s) entry_limit in
    let count_t = eqb (length r.lists_t) (stand_count r) in
    let fit_t = all? (ranking_fits (longest (surveyor_count r)) (surveyor_count r)) r.lists_t in
    let fewT = leb (total_t r.lists_t) entry_limit in
    let c' = eq→eqb (length r.lists_s) (surveyor_count r) c in
    let f' = eq→eqb (length r.lists_t) (stand_count r) f in
    and_i (quotas_fit r.quotas_s && quotas_fit r.quotas_t) _ (and_i (quotas_fit r.quotas_s) (quotas_fit r.quotas_t) a b)
    (and_i (count_s && (fit_s && fewS)) _ (and_i count_s (fit_s && fewS) c' (and_i fit_s fewS d e))
    (and_i (count_t && (fit_t && fewT)) (both_or_neither r) (and_i count_t (fit_t && fewT) f' (and_i fit_t fewT g h)) n))

-- the bytes of the four sections, one behind the other and before the rest
regroup : (a b c d rest : List ℕ) → a ++ (b ++ (c ++ (d ++ rest))) ≡ (a ++ (b ++ (c ++ d))) ++ rest
regroup a b c d rest = ap (λ z. a ++ z) (ap (λ z. b ++ z) (sym (append_assoc c d rest)) ∙ sym (append_assoc b (c ++ d) rest))
    ∙ sym (append_assoc a (b ++ (c ++ d)) rest)

-- accepted: the sections end with the file, and no pair is listed by one side only
one_sided_law : (x : Reading Roster) {r : Roster} → one_sided x ≡ accepted r → (x ≡ accepted r) × T (both_or_neither r)
one_sided_law (accepted q) e = go (both_or_neither q) refl e
  where
    go : {r : Roster} (b : Bool) → both_or_neither q ≡ b → cond b (accepted q) (refused 8) ≡ accepted r → (accepted q ≡ accepted r) × T (both_or_neither r)
    go true h e = (e, true_t (ap both_or_neither (sym (accepted_value e)) ∙ h))
    go false h e = refused-not e
one_sided_law (refused n) e = refused-not e

all_both : {A : Type 0} (p q : A → Bool) (xs : List A) → T (all? p xs) → T (all? q xs) → T (all? (λ x. p x && q x) xs)
all_both p q [] t u = tt
all_both p q (x ∷ xs) t u = and_i (p x && q x) (all? (λ x. p x && q x) xs) (and_i (p x) (q x) (and_l (p x) (all? p xs) t) (and_l (q x) (all? q xs) u))
    (all_both p q xs (and_r (p x) (all? p xs) t) (and_r (q x) (all? q xs) u))

both_all : {A : Type 0} (p q : A → Bool) (xs : List A) → T (all? (λ x. p x && q x) xs) → T (all? p xs) × T (all? q xs)
both_all p q [] t = (tt, tt)
both_all p q (x ∷ xs) t =
    given (and_l (p x && q x) (all? (λ x. p x && q x) xs) t) (λ a.
    given (both_all p q xs (and_r (p x && q x) (all? (λ x. p x && q x) xs) t)) (λ (u, v).
    (and_i (p x) (all? p xs) (and_l (p x) (q x) a) u, and_i (q x) (all? q xs) (and_r (p x) (q x) a) v)))

module _ (L : Layout) (A : Agrees L) where
  -- ---- the four sections
  abbrev lists : (ns nt : ℕ) → List ℕ → Reading (List (List Entry) × List ℕ)
  lists ns nt = read_section (read_list L (L.longest nt) nt) total_s ns

  abbrev rankings : (ns nt : ℕ) → List ℕ → Reading (List Ranking × List ℕ)
  rankings ns nt = read_section (read_ranking L (L.longest ns) ns) total_t nt

  abbrev fit_s : ℕ → List Entry → Bool
  fit_s nt = list_held L A (L.longest nt) nt

  abbrev fit_t : ℕ → Ranking → Bool
  fit_t ns = ranking_held L A (L.longest ns) ns

  -- within the limits, and of entries that the layout can hold
  abbrev SectionsHeld : Roster → Type 0
  SectionsHeld r = T (quotas_fit r.quotas_s) × T (quotas_fit r.quotas_t)
      × SectionFits (fit_s (stand_count r)) total_s (surveyor_count r) r.lists_s × SectionFits (fit_t (surveyor_count r)) total_t (stand_count r) r.lists_t

  -- the layout can hold every entry of both sides' lists
  abbrev pub Held : Roster → Type 0
  Held r = T (all? (held L A) r.lists_s) × T (all? (λ R. held L A (entries R)) r.lists_t)

  held→ : (r : Roster) → SectionsHeld r → SectionsFit L.longest r × Held r
  held→ r (p₁, p₂, (l₃, a₃, k₃), (l₄, a₄, k₄)) =
      given (both_all (held L A) (list_fits (L.longest (stand_count r)) (stand_count r)) r.lists_s a₃) (λ (h₃, f₃).
      given (both_all (λ R. held L A (entries R)) (ranking_fits (L.longest (surveyor_count r)) (surveyor_count r)) r.lists_t a₄) (λ (h₄, f₄).
      ((p₁, p₂, (l₃, f₃, k₃), (l₄, f₄, k₄)), (h₃, h₄))))

  →held : (r : Roster) → SectionsFit L.longest r → Held r → SectionsHeld r
  →held r (p₁, p₂, (l₃, f₃, k₃), (l₄, f₄, k₄)) (h₃, h₄) = (
    p₁,
    p₂,
    (l₃, all_both (held L A) (list_fits (L.longest (stand_count r)) (stand_count r)) r.lists_s h₃ f₃, k₃),
    (l₄, all_both (λ R. held L A (entries R)) (ranking_fits (L.longest (surveyor_count r)) (surveyor_count r)) r.lists_t h₄ f₄, k₄),
  )

  abbrev part_a : Roster → List ℕ
  part_a r = wide_bytes (total_s r.lists_s) ++ gather (entries_bytes L) r.lists_s

  abbrev part_b : Roster → List ℕ
  part_b r = wide_bytes (total_t r.lists_t) ++ gather (ranking_bytes L) r.lists_t

  abbrev finish : (qs qt : List ℕ) → List (List Entry) → List Ranking → List ℕ → Reading (Roster × List ℕ)
  finish qs qt ls ts rest = accepted (record { quotas_s = qs; quotas_t = qt; lists_s = ls; lists_t = ts }, rest)

  abbrev fourth : (qs qt : List ℕ) → List (List Entry) → List ℕ → Reading (Roster × List ℕ)
  fourth qs qt ls rest = rankings (length qs) (length qt) rest then finish qs qt ls

  abbrev third : (qs qt : List ℕ) → List ℕ → Reading (Roster × List ℕ)
  third qs qt rest = lists (length qs) (length qt) rest then fourth qs qt

  abbrev second : List ℕ → List ℕ → Reading (Roster × List ℕ)
  second qs rest = read_nodes rest then third qs

  sections_back : (bs : List ℕ) (r : Roster) (rest : List ℕ) → T (is_bytes bs) → read_sections L bs ≡ accepted (r, rest)
      → (bs ≡ write_roster_by L r ++ rest) × SectionsHeld r
  unfolding write_roster_by
  sections_back bs r rest t e =
      given (then_read (read_nodes bs) second e) (λ (qs, m₁, e₁, h₁).
      given (then_read (read_nodes m₁) (third qs) h₁) (λ (qt, m₂, e₂, h₂).
      given (then_read (lists (length qs) (length qt) m₂) (fourth qs qt) h₂) (λ (ls, m₃, e₃, h₃).
      given (then_read (rankings (length qs) (length qt) m₃) (finish qs qt ls) h₃) (λ (ts, m₄, e₄, h₄).
      given (nodes.back bs qs m₁ t e₁) (λ (w₁, p₁).
      given (rest_bytes (list_bytes qs) m₁ w₁ t) (λ t₁.
      given (nodes.back m₁ qt m₂ t₁ e₂) (λ (w₂, p₂).
      given (rest_bytes (list_bytes qt) m₂ w₂ t₁) (λ t₂.
      given ((section (fit_s (length qt)) total_s (list L A (L.longest (length qt)) (length qt)) (length qs)).back m₂ ls m₃ t₂ e₃) (λ (w₃, p₃).
      given ((section (fit_t (length qs)) total_t (ranking L A (L.longest (length qs)) (length qs))
      (length qt)).back m₃ ts m₄ (rest_bytes (wide_bytes (total_s ls) ++ gather (entries_bytes L) ls) m₃ w₃ t₂) e₄) (λ (w₄, p₄). (
        w₁ ∙ ap (λ z. list_bytes qs ++ z) (w₂ ∙ ap (λ z. list_bytes qt ++ z)
            (w₃ ∙ ap (λ z. (wide_bytes (total_s ls) ++ gather (entries_bytes L) ls) ++ z)
            (w₄ ∙ ap (λ z. (wide_bytes (total_t ts) ++ gather (ranking_bytes L) ts) ++ z) (read_rest h₄))))
            ∙ regroup (list_bytes qs) (list_bytes qt) (wide_bytes (total_s ls) ++ gather (entries_bytes L) ls)
            (wide_bytes (total_t ts) ++ gather (ranking_bytes L) ts) rest
            ∙ ap (λ r. (list_bytes r.quotas_s ++ (list_bytes r.quotas_t ++ (part_a r ++ part_b r))) ++ rest) (read_value h₄),
        subst SectionsHeld (read_value h₄) (p₁, p₂, p₃, p₄),
      )))))))))))

  sections_forth : (r : Roster) (rest : List ℕ) → SectionsHeld r → read_sections L (write_roster_by L r ++ rest) ≡ accepted (r, rest)
  unfolding write_roster_by
  sections_forth r rest (p₁, p₂, p₃, p₄) =
      ap (read_sections L) (sym (regroup (list_bytes r.quotas_s) (list_bytes r.quotas_t) (part_a r) (part_b r) rest))
      ∙ ap (λ x. x then second) (nodes.forth r.quotas_s (list_bytes r.quotas_t ++ (part_a r ++ (part_b r ++ rest))) p₁)
      ∙ ap (λ x. x then third r.quotas_s) (nodes.forth r.quotas_t (part_a r ++ (part_b r ++ rest)) p₂)
      ∙ ap (λ x. x then fourth r.quotas_s r.quotas_t)
      ((section (fit_s (stand_count r)) total_s (list L A (L.longest (stand_count r)) (stand_count r))
      (surveyor_count r)).forth r.lists_s (part_b r ++ rest) p₃)
      ∙ ap (λ x. x then finish r.quotas_s r.quotas_t r.lists_s)
      ((section (fit_t (surveyor_count r)) total_t (ranking L A (L.longest (surveyor_count r)) (surveyor_count r)) (stand_count r)).forth r.lists_t rest p₄)

  -- ---- the whole file
  sections_of : (bs : List ℕ) (r : Roster) → read_roster_by L bs ≡ accepted r → (read_sections L bs ≡ accepted (r, [])) × T (both_or_neither r)
  unfolding read_roster_by
  sections_of bs r e = given (one_sided_law (whole (read_sections L bs)) e) (λ (a, n). (whole_accepted (read_sections L bs) a, n))

  module _ (bs : List ℕ) (r : Roster) (is_b : T (is_bytes bs)) (e : read_roster_by L bs ≡ accepted r) where
    -- "written back to the same bytes"
    pub read_write_by : write_roster_by L r ≡ bs
    read_write_by = given (sections_of bs r e) (λ (s, n). sym ((sections_back bs r [] is_b s).0 ∙ append-nil (write_roster_by L r)))

    -- within the limits
    pub read_fits_by : T (fits_by L.longest r)
    read_fits_by = given (sections_of bs r e) (λ (s, n). parts_fit_by L.longest r (held→ r (sections_back bs r [] is_b s).1).0 n)

    -- and of entries that the layout can hold
    pub read_held : Held r
    read_held = given (sections_of bs r e) (λ (s, n). (held→ r (sections_back bs r [] is_b s).1).1)

  -- what is within the limits is accepted, and read back the same
  pub write_read_by : (r : Roster) → T (fits_by L.longest r) → Held r → read_roster_by L (write_roster_by L r) ≡ accepted r
  unfolding read_roster_by
  write_read_by r t h =
      given (fits_parts_by L.longest r t) (λ (p, n).
      ap (λ z. one_sided (whole (read_sections L z))) (sym (append-nil (write_roster_by L r)))
      ∙ ap (λ x. one_sided (whole x)) (sections_forth r [] (→held r p h))
      ∙ ap (λ b. cond b (accepted r) (refused 8)) (T_true {b = both_or_neither r} n))

  -- ---- sizes
  -- the bytes of some entries: the layout's width for each
  pub entries_size : (xs : List Entry) → length (gather L.bytes xs) ≡ A.width * length xs
  entries_size [] = omega arith
  entries_size (x ∷ xs) = omega (arith, length-append (L.bytes x) (gather L.bytes xs), A.wide x, entries_size xs)

  -- the bytes of surveyors' lists: one length byte a list, and the layout's width for each entry
  pub lists_size_by : (ls : List (List Entry)) → length (gather (entries_bytes L) ls) ≡ length ls + A.width * total_s ls
  lists_size_by [] = omega arith
  lists_size_by (xs ∷ ls) = omega (arith, length-append (entries_bytes L xs) (gather (entries_bytes L) ls), entries_size xs, lists_size_by ls)

  -- the bytes of stands' lists: two length bytes a list, and the layout's width for each entry
  pub rankings_size_by : (ts : List Ranking) → length (gather (ranking_bytes L) ts) ≡ 2 * length ts + A.width * total_t ts
  rankings_size_by [] = omega arith
  rankings_size_by (R ∷ ts) = omega (arith, length-append (ranking_bytes L R) (gather (ranking_bytes L) ts), entries_size (entries R), rankings_size_by ts)

  -- the counts and lengths, and the entries twice
  abbrev pub size_by : ℕ
  size_by = 166 + A.width * (2 * entry_limit)

  pub roster_size_by : (longest : ℕ → ℕ) (r : Roster) → T (fits_by longest r) → length (write_roster_by L r) ≤ size_by
  unfolding write_roster_by
  roster_size_by longest r t =
      given (fits_parts_by longest r t) (λ ((p₁, p₂, (l₃, a₃, k₃), (l₄, a₄, k₄)), n).
      let qs = leb→le (surveyor_count r) node_limit (and_l (leb (surveyor_count r) node_limit) _ p₁) in
      let qt = leb→le (stand_count r) node_limit (and_l (leb (stand_count r) node_limit) _ p₂) in
      omega (
        arith,
        qs,
        qt,
        mul-le-mul_left A.width (leb→le (total_s r.lists_s) entry_limit k₃),
        mul-le-mul_left A.width (leb→le (total_t r.lists_t) entry_limit k₄),
        lists_size_by r.lists_s,
        rankings_size_by r.lists_t,
        length-append (list_bytes r.quotas_s) (list_bytes r.quotas_t ++ (part_a r ++ part_b r)),
        length-append (list_bytes r.quotas_t) (part_a r ++ part_b r),
        length-append (part_a r) (part_b r),
        length-append (wide_bytes (total_s r.lists_s)) (gather (entries_bytes L) r.lists_s),
        length-append (wide_bytes (total_t r.lists_t)) (gather (ranking_bytes L) r.lists_t),
      ))

  pub accepted_size_by : (bs : List ℕ) (r : Roster) → T (is_bytes bs) → read_roster_by L bs ≡ accepted r → length bs ≤ size_by
  accepted_size_by bs r t e = subst (λ z. length z ≤ size_by) (read_write_by bs r t e) (roster_size_by L.longest r (read_fits_by bs r t e))

-- ---- rosters with shifts: every entry can be held
pub fits_parts : (r : Roster) → T (fits r) → SectionsFit (λ count. list_limit) r × T (both_or_neither r)
fits_parts r t = fits_parts_by (λ count. list_limit) r t

all_true : {A : Type 0} (xs : List A) → T (all? (λ x. true) xs)
all_true [] = tt
all_true (x ∷ xs) = all_true xs

all_all : {A : Type 0} (p : A → Bool) → ((x : A) → T (p x)) → (xs : List A) → T (all? p xs)
all_all p h [] = tt
all_all p h (x ∷ xs) = and_i (p x) (all? p xs) (h x) (all_all p h xs)

held_shifted : (r : Roster) → Held shifted in_shifted r
held_shifted r = (
  all_all (held shifted in_shifted) (λ xs. all_true xs) r.lists_s,
  all_all (λ R. held shifted in_shifted (entries R)) (λ R. all_true (entries R)) r.lists_t,
)

module _ (bs : List ℕ) (r : Roster) (is_b : T (is_bytes bs)) (e : read_roster bs ≡ accepted r) where
  -- accepted bytes are written back the same
  pub read_write : write_roster r ≡ bs
  read_write = read_write_by shifted in_shifted bs r is_b e

  -- accepted bytes are a roster within the limits
  pub read_fits : T (fits r)
  read_fits = read_fits_by shifted in_shifted bs r is_b e

-- a roster within the limits is accepted when it is written, and read back the same
pub write_read : (r : Roster) → T (fits r) → read_roster (write_roster r) ≡ accepted r
write_read r t = write_read_by shifted in_shifted r t (held_shifted r)

-- the bytes of surveyors' lists with shifts: one for each list, two for each entry
pub lists_size : (ls : List (List Entry)) → length (gather (entries_bytes shifted) ls) ≡ length ls + 2 * total_s ls
lists_size ls = lists_size_by shifted in_shifted ls

-- the bytes of stands' lists with shifts: two for each list, two for each entry
pub rankings_size : (ts : List Ranking) → length (gather (ranking_bytes shifted) ts) ≡ 2 * length ts + 2 * total_t ts
rankings_size ts = rankings_size_by shifted in_shifted ts

-- "rosters 4,262"
pub roster_size_law : (r : Roster) → T (fits r) → length (write_roster r) ≤ roster_size
roster_size_law r t = roster_size_by shifted in_shifted (λ count. list_limit) r t

-- an accepted roster file has at most 4,262 bytes
pub accepted_size : (bs : List ℕ) (r : Roster) → T (is_bytes bs) → read_roster bs ≡ accepted r → length bs ≤ roster_size
accepted_size bs r t e = accepted_size_by shifted in_shifted bs r t e
