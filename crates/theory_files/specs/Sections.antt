-- The sections of a roster file, each read and written: quotas, surveyors' lists, stands' lists.
use Rattle.std.specs.Prelude.{ℕ, ◌+◌, ◌*◌, ◌/◌, ◌%◌, ◌<◌, ◌≡◌, refl, Bool, true, false, not, ◌&&◌, List, [], ◌∷◌, ◌++◌, length, T, eqb, leb, ltb}
use Rattle.std.proofs.Common.{arith, sym, ap, ap₂, ◌∙◌, subst, append_assoc, length-append, leb→le, le→leb, nltb→le, ltb→lt, eqb→eq}
use Rattle.std.proofs.Math.Arith.{le→nltb}
use Rattle.lists.specs.Test.{given, and_l, and_r, and_i, eq→eqb}
use Rattle.lists.specs.Sum.{sum}
use Rattle.lists.specs.Keep.{all?, gather, all_append, All}
use Rattle.lists.specs.Ranges.{gather_append}
use Rattle.model.specs.Limits.{node_limit, quota_sum_limit, entry_limit}
use Rattle.model.specs.Reading.{Reading, accepted, ◌then◌, refuse_if, byte, two_bytes}
use Rattle.model.specs.Roster.{Entry, Ranking, entries, no_entry, entry_fits, distinct, ascending, quotas_fit, list_fits, ranking_fits}
use Rattle.model.specs.RosterFile.{Layout, read_count, read_wide_count, quota_check, read_nodes, entry_check, read_entries, tied_check, read_tied}
use Rattle.model.specs.RosterFile.{read_list, read_ranking, read_many, read_section, wide_bytes, list_bytes, entries_bytes, ranking_bytes}
use Rattle.theory_files.specs.Reads.{is_bytes, rest_bytes, Reads, read_value, read_rest, refuse_read, refuse_no, then_read, byte_read}
use Rattle.theory_files.specs.Reads.{two_bytes_read, Passes, each, bytes}
use Rattle.theory_files.specs.Entries.{fresh, fresh_distinct, distinct_fresh, fresh_append, in_range, small, quotas→, →quotas, entries→}
use Rattle.theory_files.specs.Entries.{→entries, tied→, →tied}
use Rattle.theory_files.specs.Layouts.{Agrees}

-- the same agreement about facts that say the same
pub alike : {A : Type 0} {read : List ℕ → Reading (A × List ℕ)} {write : A → List ℕ} {P Q : A → Type 0}
    → ((a : A) → P a → Q a) → ((a : A) → Q a → P a) → Reads read write P → Reads read write Q
alike f g R = record {
  back = λ bs a rest t e. given (R.back bs a rest t e) (λ (w, p). (w, f a p));
  forth = λ a rest q. R.forth a rest (g a q);
}

-- not refused as too many
not_above : (limit n : ℕ) → T (not (ltb limit n)) → T (leb n limit)
not_above limit n t = le→leb n limit (nltb→le limit n t)

above_not : (limit n : ℕ) → T (leb n limit) → T (not (ltb limit n))
above_not limit n t = le→nltb limit n (leb→le n limit t)

-- ---- a count byte, and as many of something behind it
pub counted : (limit : ℕ) {A : Type 0} {body : ℕ → List ℕ → Reading (A × List ℕ)} {write : A → List ℕ} {size : A → ℕ} {P : A → Type 0}
    → ((n : ℕ) → Reads (body n) write (λ a. (size a ≡ n) × P a))
    → Reads (λ bs. read_count limit bs then body) (λ a. size a ∷ write a) (λ a. T (leb (size a) limit) × P a)
counted limit {A} {body} {write} {size} {P} R = record {
  back = λ bs a rest t e.
      given (then_read (read_count limit bs) body e) (λ (n, mid, e₁, h₁).
      given (then_read (byte bs) (λ n rest. refuse_if (ltb limit n) 2 (accepted (n, rest))) e₁) (λ (k, mid', e₂, h₂).
      given (refuse_read (ltb limit k) 2 h₂) (λ (l, h₃).
      given (byte_read bs e₂) (λ w.
      given ((R n).back mid a rest (subst (λ z. T (is_bytes z)) (read_rest h₃) (rest_bytes (k ∷ []) mid' w t)) h₁) (λ (v, (s, p)). (
        w ∙ ap₂ (λ z zs. z ∷ zs) (read_value h₃ ∙ sym s) (read_rest h₃ ∙ v),
        (subst (λ z. T (leb z limit)) (read_value h₃ ∙ sym s) (not_above limit k l), p),
      ))))));
  forth = λ a rest (l, p).
      ap (λ r. r then body) (refuse_no (ltb limit (size a)) 2 (accepted (size a, write a ++ rest)) (above_not limit (size a) l))
      ∙ (R (size a)).forth a rest (refl, p);
}

-- ---- "Surveyors: a count byte 0 to 32, then one quota byte each, 0 to 8. Stands: likewise."
-- the count and the quotas of a side are read as they are written, if they are within the limits
pub nodes : Reads read_nodes list_bytes (λ qs. T (quotas_fit qs))
nodes = alike
    (λ qs (l, p). given (quotas→ 0 qs (omega arith) p) (λ (a, s). and_i (leb (length qs) node_limit) (small qs && leb (sum (λ q. q) qs) quota_sum_limit) l
    (and_i (small qs) (leb (sum (λ q. q) qs) quota_sum_limit) a (le→leb (sum (λ q. q) qs) quota_sum_limit (omega arith)))))
    (λ qs t. given (and_r (leb (length qs) node_limit) (small qs && leb (sum (λ q. q) qs) quota_sum_limit) t) (λ u. (
      and_l (leb (length qs) node_limit) (small qs && leb (sum (λ q. q) qs) quota_sum_limit) t,
      →quotas 0 qs (and_l (small qs) (leb (sum (λ q. q) qs) quota_sum_limit) u)
          (given (leb→le (sum (λ q. q) qs) quota_sum_limit (and_r (small qs) (leb (sum (λ q. q) qs) quota_sum_limit) u)) (λ h. omega arith)),
    )))
    (counted node_limit (λ n. bytes quota_check (λ so q. so + q) n 0))

-- where each element passes, the test of the whole list does
pub every_all : {A : Type 0} (p : A → Bool) (xs : List A) → All (λ x. T (p x)) xs → T (all? p xs)
every_all p [] e = tt
every_all p (x ∷ xs) e = and_i (p x) (all? p xs) e.0 (every_all p xs e.1)

pub all_every : {A : Type 0} (p : A → Bool) (xs : List A) → T (all? p xs) → All (λ x. T (p x)) xs
all_every p [] t = tt
all_every p (x ∷ xs) t = (and_l (p x) (all? p xs) t, all_every p xs (and_r (p x) (all? p xs) t))

-- the two parts of a stand's list together are a list that fits, and the tie ascends
fits_join : (longest count : ℕ) (xs ys : List Entry) → T (leb (length xs + length ys) longest)
    → T (in_range count xs) → T (fresh [] xs) → T (in_range count ys) → T (fresh xs ys) → T (ascending no_entry ys)
    → T (ranking_fits longest count (record { strict = xs; tied = ys }))
fits_join longest count xs ys l r f r' f' u = and_i (list_fits longest count (xs ++ ys)) (ascending no_entry ys)
    (and_i (leb (length (xs ++ ys)) longest) (in_range count (xs ++ ys) && distinct (xs ++ ys)) (subst (λ k. T (leb k longest)) (sym (length-append xs ys)) l)
    (and_i (in_range count (xs ++ ys)) (distinct (xs ++ ys))
    (subst T (sym (all_append (entry_fits count) xs ys)) (and_i (in_range count xs) (in_range count ys) r r'))
    (fresh_distinct (xs ++ ys) (subst T (sym (fresh_append [] xs ys)) (and_i (fresh [] xs) (fresh xs ys) f f')))))
    u

fits_split : (longest count : ℕ) (xs ys : List Entry) → T (ranking_fits longest count (record { strict = xs; tied = ys }))
    → T (leb (length xs + length ys) longest) × (T (in_range count xs) × T (fresh [] xs)) × (T (in_range count ys) × T (fresh xs ys) × T (ascending no_entry ys))
fits_split longest count xs ys t =
    given (and_l (list_fits longest count (xs ++ ys)) (ascending no_entry ys) t) (λ a.
    given (and_r (leb (length (xs ++ ys)) longest) (in_range count (xs ++ ys) && distinct (xs ++ ys)) a) (λ b.
    given (subst T (all_append (entry_fits count) xs ys) (and_l (in_range count (xs ++ ys)) (distinct (xs ++ ys)) b)) (λ r.
    given (subst T (fresh_append [] xs ys) (distinct_fresh (xs ++ ys) (and_r (in_range count (xs ++ ys)) (distinct (xs ++ ys)) b))) (λ f. (
      subst (λ k. T (leb k longest)) (length-append xs ys) (and_l (leb (length (xs ++ ys)) longest) (in_range count (xs ++ ys) && distinct (xs ++ ys)) a),
      (and_l (in_range count xs) (in_range count ys) r, and_l (fresh [] xs) (fresh xs ys) f),
      (and_r (in_range count xs) (in_range count ys) r, and_r (fresh [] xs) (fresh xs ys) f, and_r (list_fits longest count (xs ++ ys)) (ascending no_entry ys) t),
    )))))

module _ (L : Layout) (A : Agrees L) where
  -- the layout holds all of these entries
  abbrev pub held : List Entry → Bool
  held xs = all? A.holds xs

  -- a list within its limits, of entries that the layout can hold
  abbrev pub list_held : (longest count : ℕ) → List Entry → Bool
  list_held longest count xs = held xs && list_fits longest count xs

  -- a stand's list within its limits, of entries that the layout can hold
  abbrev pub ranking_held : (longest count : ℕ) → Ranking → Bool
  ranking_held longest count R = held (entries R) && ranking_fits longest count R

  strict_part : (count n : ℕ) → Reads (read_entries L count n) (gather L.bytes) (λ xs.
      (length xs ≡ n) × (T (held xs) × T (in_range count xs) × T (fresh [] xs)))
  strict_part count n = alike
      (λ xs (l, h, p). given (entries→ count [] xs p) (λ (r, f). (l, (every_all A.holds xs h, r, f))))
      (λ xs (l, (h, r, f)). (l, all_every A.holds xs h, →entries count [] xs r f))
      (each A.reads (entry_check count) (λ seen x. seen ++ x ∷ []) n [])

  tied_part : (count : ℕ) (strict : List Entry) (n : ℕ) → Reads (read_tied L count strict n) (gather L.bytes) (λ xs.
      (length xs ≡ n) × (T (held xs) × T (in_range count xs) × T (fresh strict xs) × T (ascending no_entry xs)))
  tied_part count strict n = alike
      (λ xs (l, h, p). given (tied→ count (record { seen = strict; last = no_entry }) xs p) (λ (r, f, u). (l, (every_all A.holds xs h, r, f, u))))
      (λ xs (l, (h, r, f, u)). (l, all_every A.holds xs h, →tied count (record { seen = strict; last = no_entry }) xs r f u))
      (each A.reads (tied_check count) (λ s x. record { seen = s.seen ++ x ∷ []; last = x }) n (record { seen = strict; last = no_entry }))

  module _ (longest count : ℕ) where
    -- ---- "for each surveyor a length byte and stand numbers, best first"
    -- a surveyor's list is read as it is written, if it is within its limits and the layout can hold its entries
    pub list : Reads (read_list L longest count) (entries_bytes L) (λ xs. T (list_held longest count xs))
    list = alike
        (λ xs (l, (h, r, f)). and_i (held xs) (list_fits longest count xs) h
        (and_i (leb (length xs) longest) (in_range count xs && distinct xs) l (and_i (in_range count xs) (distinct xs) r (fresh_distinct xs f))))
        (λ xs t. given (and_r (held xs) (list_fits longest count xs) t) (λ v. given (and_r (leb (length xs) longest) (in_range count xs && distinct xs) v) (λ u. (
          and_l (leb (length xs) longest) (in_range count xs && distinct xs) v,
          (
            and_l (held xs) (list_fits longest count xs) t,
            and_l (in_range count xs) (distinct xs) u,
            distinct_fresh xs (and_r (in_range count xs) (distinct xs) u),
          ),
        ))))
        (counted longest (strict_part count))

    -- ---- "for each stand the strict length byte, the tie length byte, the strict surveyors best first, the tied ones ascending"
    abbrev paired : List Entry → List Entry → List ℕ → Reading (Ranking × List ℕ)
    paired xs ys rest = accepted (record { strict = xs; tied = ys }, rest)

    abbrev behind : ℕ → List Entry → List ℕ → Reading (Ranking × List ℕ)
    behind b xs rest = read_tied L count xs b rest then paired xs

    abbrev body : ℕ → ℕ → List ℕ → Reading (Ranking × List ℕ)
    body a b rest = refuse_if (ltb longest (a + b)) 2 (read_entries L count a rest then behind b)

    -- the bytes of the two parts, one behind the other
    parts : (xs ys : List Entry) (rest : List ℕ) → gather L.bytes xs ++ (gather L.bytes ys ++ rest) ≡ gather L.bytes (xs ++ ys) ++ rest
    parts xs ys rest = sym (append_assoc (gather L.bytes xs) (gather L.bytes ys) rest) ∙ ap (λ z. z ++ rest) (sym (gather_append L.bytes xs ys))

    ranking_back : (bs : List ℕ) (R : Ranking) (rest : List ℕ) → T (is_bytes bs)
        → read_ranking L longest count bs ≡ accepted (R, rest) → (bs ≡ ranking_bytes L R ++ rest) × T (ranking_held longest count R)
    ranking_back bs R rest t e =
        given (then_read (byte bs) (λ a rest. byte rest then body a) e) (λ (a, m₁, e₁, h₁).
        given (then_read (byte m₁) (body a) h₁) (λ (b, m₂, e₂, h₂).
        given (refuse_read (ltb longest (a + b)) 2 h₂) (λ (l, h₃).
        given (then_read (read_entries L count a m₂) (behind b) h₃) (λ (xs, m₃, e₄, h₄).
        given (then_read (read_tied L count xs b m₃) (paired xs) h₄) (λ (ys, m₄, e₅, h₅).
        given (byte_read bs e₁ ∙ ap (λ z. a ∷ z) (byte_read m₁ e₂)) (λ (w : bs ≡ a ∷ b ∷ m₂).
        given (rest_bytes (a ∷ b ∷ []) m₂ w t) (λ t₂.
        given ((strict_part count a).back m₂ xs m₃ t₂ e₄) (λ (w₃, (l₃, (k₃, r₃, f₃))).
        given ((tied_part count xs b).back m₃ ys m₄ (rest_bytes (gather L.bytes xs) m₃ w₃ t₂) e₅) (λ (w₄, (l₄, (k₄, r₄, f₄, u₄))). (
          w ∙ ap₂ (λ x y. x ∷ y ∷ m₂) (sym l₃) (sym l₄)
              ∙ ap (λ z. length xs ∷ length ys ∷ z)
              (w₃ ∙ ap (λ z. gather L.bytes xs ++ z) (w₄ ∙ ap (λ z. gather L.bytes ys ++ z) (read_rest h₅)) ∙ parts xs ys rest)
              ∙ ap (λ Q. ranking_bytes L Q ++ rest) (read_value h₅),
          subst (λ Q. T (ranking_held longest count Q)) (read_value h₅)
              (and_i (held (xs ++ ys)) (ranking_fits longest count (record { strict = xs; tied = ys }))
              (subst T (sym (all_append A.holds xs ys)) (and_i (held xs) (held ys) k₃ k₄))
              (fits_join longest count xs ys (subst (λ k. T (leb k longest)) (ap₂ ◌+◌ (sym l₃) (sym l₄)) (not_above longest (a + b) l)) r₃ f₃ r₄ f₄ u₄)),
        ))))))))))

    ranking_forth : (R : Ranking) (rest : List ℕ) → T (ranking_held longest count R)
        → read_ranking L longest count (ranking_bytes L R ++ rest) ≡ accepted (R, rest)
    ranking_forth R rest t =
        given (subst T (all_append A.holds R.strict R.tied) (and_l (held (entries R)) (ranking_fits longest count R) t)) (λ h.
        given (fits_split longest count R.strict R.tied (and_r (held (entries R)) (ranking_fits longest count R) t)) (λ (l, (r, f), (r', f', u)).
        refuse_no (ltb longest (length R.strict + length R.tied)) 2
        (read_entries L count (length R.strict) (gather L.bytes (entries R) ++ rest) then behind (length R.tied))
        (above_not longest (length R.strict + length R.tied) l)
        ∙ ap (λ z. read_entries L count (length R.strict) z then behind (length R.tied)) (sym (parts R.strict R.tied rest))
        ∙ ap (λ r. r then behind (length R.tied))
        ((strict_part count (length R.strict)).forth R.strict (gather L.bytes R.tied ++ rest)
        (refl, (and_l (held R.strict) (held R.tied) h, r, f)))
        ∙ ap (λ r. r then paired R.strict)
        ((tied_part count R.strict (length R.tied)).forth R.tied rest (refl, (and_r (held R.strict) (held R.tied) h, r', f', u)))))

    -- a stand's list is read as it is written, if it is within its limits and the layout can hold its entries
    pub ranking : Reads (read_ranking L longest count) (ranking_bytes L) (λ R. T (ranking_held longest count R))
    ranking = record { back = ranking_back; forth = ranking_forth }

-- ---- a section of lists
unchecked : {A : Type 0} (xs : List A) → Passes {S = Unit {0}} {A = A} (λ s x. 0) (λ s x. s) tt xs
unchecked [] = tt
unchecked (x ∷ xs) = (refl, unchecked xs)

wide_low : (x y : ℕ) → x < 256 → (x + 256 * y) % 256 ≡ x
wide_low x y h = omega arith

wide_high : (x y : ℕ) → x < 256 → (x + 256 * y) / 256 ≡ y
wide_high x y h = omega arith

wide_whole : (n : ℕ) → n % 256 + 256 * (n / 256) ≡ n
wide_whole n = omega arith

-- as many lists as nodes, each within its limits, and no more entries than a section may have
abbrev pub SectionFits : {A : Type 0} → (fit : A → Bool) (total : List A → ℕ) (n : ℕ) → List A → Type 0
SectionFits fit total n xs = (length xs ≡ n) × T (all? fit xs) × T (leb (total xs) entry_limit)

module _ {A : Type 0} {field : List ℕ → Reading (A × List ℕ)} {write : A → List ℕ}
    (fit : A → Bool) (total : List A → ℕ) (R : Reads field write (λ a. T (fit a))) (n : ℕ) where
  abbrev Fits : List A → Type 0
  Fits xs = SectionFits fit total n xs

  abbrev pub section_bytes : List A → List ℕ
  section_bytes xs = wide_bytes (total xs) ++ gather write xs

  abbrev checked : ℕ → List A → List ℕ → Reading (List A × List ℕ)
  checked w xs rest = refuse_if (not (eqb w (total xs))) 7 (accepted (xs, rest))

  abbrev lists : ℕ → List ℕ → Reading (List A × List ℕ)
  lists w rest = read_many field n rest then checked w

  abbrev wide : ℕ × ℕ → ℕ
  wide w = w.0 + 256 * w.1

  section_back : (bs : List ℕ) (xs : List A) (rest : List ℕ) → T (is_bytes bs) → read_section field total n bs ≡ accepted (xs, rest)
      → (bs ≡ section_bytes xs ++ rest) × Fits xs
  section_back bs xs rest t e =
      given (then_read (read_wide_count bs) lists e) (λ (w, m₁, e₁, h₁).
      given (then_read (two_bytes bs) (λ w rest. refuse_if (ltb entry_limit (wide w)) 2 (accepted (wide w, rest))) e₁) (λ (v, m₂, e₂, h₂).
      given (refuse_read (ltb entry_limit (wide v)) 2 h₂) (λ (l, h₃).
      given (then_read (read_many field n m₁) (checked w) h₁) (λ (ys, m₃, e₄, h₄).
      given (refuse_read (not (eqb w (total ys))) 7 h₄) (λ (s, h₅).
      given (two_bytes_read bs e₂) (λ wv.
      given (rest_bytes (v.0 ∷ v.1 ∷ []) m₂ wv t) (λ t₂.
      given ((each R (λ s x. 0) (λ s x. s) n tt).back m₁ ys m₃ (subst (λ z. T (is_bytes z)) (read_rest h₃) t₂) e₄) (λ (w₄, (l₄, p₄, k₄)).
      given (ltb→lt v.0 256 (and_l (ltb v.0 256) (is_bytes (v.1 ∷ m₂)) (subst (λ z. T (is_bytes z)) wv t))) (λ small.
      given (read_value h₃ ∙ eqb→eq w (total ys) (twice (eqb w (total ys)) s)) (λ (same : wide v ≡ total ys). (
        wv ∙ ap₂ (λ x y. x ∷ y ∷ m₂) (sym (wide_low v.0 v.1 small) ∙ ap (λ k. k % 256) same)
            (sym (wide_high v.0 v.1 small) ∙ ap (λ k. k / 256) same)
            ∙ ap (λ z. wide_bytes (total ys) ++ z) (read_rest h₃ ∙ w₄ ∙ ap (λ z. gather write ys ++ z) (read_rest h₅))
            ∙ ap (λ zs. section_bytes zs ++ rest) (read_value h₅),
        subst Fits (read_value h₅) (l₄, every_all fit ys p₄, subst (λ k. T (leb k entry_limit)) same (not_above entry_limit (wide v) l)),
      )))))))))))
    where
      twice : (b : Bool) → T (not (not b)) → T b
      twice true t = tt
      twice false t = absurd t

  section_forth : (xs : List A) (rest : List ℕ) → Fits xs → read_section field total n (section_bytes xs ++ rest) ≡ accepted (xs, rest)
  section_forth xs rest (l, a, k) =
      ap (λ r. r then lists)
      (ap (λ c. refuse_if (ltb entry_limit c) 2 (accepted (c, gather write xs ++ rest))) (wide_whole (total xs))
      ∙ refuse_no (ltb entry_limit (total xs)) 2 (accepted (total xs, gather write xs ++ rest)) (above_not entry_limit (total xs) k))
      ∙ ap (λ r. r then checked (total xs)) ((each R (λ s x. 0) (λ s x. s) n tt).forth xs rest (l, all_every fit xs a, unchecked xs))
      ∙ refuse_no (not (eqb (total xs) (total xs))) 7 (accepted (xs, rest)) (same (eqb (total xs) (total xs)) (eq→eqb (total xs) (total xs) refl))
    where
      same : (b : Bool) → T b → T (not (not b))
      same true t = tt
      same false t = absurd t

  -- a section is read back as it was written, and written as it was read
  pub section : Reads (read_section field total n) section_bytes Fits
  section = record { back = section_back; forth = section_forth }
