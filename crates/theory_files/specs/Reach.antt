-- How far a reader looks: a reader that reaches k bytes reads a longer file as it reads the file's first k bytes, the bytes behind them
-- left for what follows. The sections of a roster reach 4,262 bytes with shifts and 2,214 without, so the first 4,263 or 2,215 of a file
-- settle its reading.
use Prim.Native.Nat.{ℕ, zero, suc, ◌+◌, ◌*◌, ◌≤◌, ◌<◌}
use Rattle.std.proofs.Common.{arith, mul-le-mul_left, sym, ◌∙◌, take-append-drop, take_all, nltb→le}
use Rattle.std.proofs.Math.Decide.{dec_lt}
use Rattle.std.specs.Prelude.{◌≡◌, Bool, true, false, not, take, T, eqb, ltb}
use Rattle.std.proofs.Math.Path.{refl, ap}
use Rattle.std.proofs.Math.Logic.{by_cases}
use mathlib.Core.List.{List, [], ◌∷◌, ◌++◌}
use Rattle.std.proofs.Math.ListN.{length, drop}
use Rattle.std.proofs.Math.Seq.{length-take-le}
use Rattle.lists.specs.Test.{given}
use Rattle.model.specs.Limits.{node_limit, entry_limit, list_limit, input_size}
use Rattle.model.specs.Reading.{Reading, accepted, refused, ◌then◌, refuse_if, refuse_by, byte, two_bytes, read_each, whole}
use Rattle.model.specs.Roster.{Entry, Ranking, Roster, no_entry, total_s, total_t}
use Rattle.model.specs.RosterFile.{Layout, shifted, read_count, read_wide_count, quota_check, read_quotas, read_nodes, entry_check, read_entries}
use Rattle.model.specs.RosterFile.{tied_check, read_tied, read_list, read_ranking, read_many, read_section, read_sections, one_sided, read_roster_by}
use Rattle.model.specs.RosterFile.{read_roster}

-- a reading of some bytes, and of the same with more behind them: both refuse alike, or both give the same and the rest, of which no more
-- than k bytes are gone
data Alike {A : Type 0} (k : ℕ) (P : A → Type 0) (bs tail : List ℕ) (short long : Reading (A × List ℕ)) : Type 0 where
  stops : (n : ℕ) → short ≡ refused n → long ≡ refused n → Alike k P bs tail short long
  goes : (a : A) (rest : List ℕ) → P a → short ≡ accepted (a, rest) → long ≡ accepted (a, rest ++ tail)
      → length bs ≤ length rest + k → Alike k P bs tail short long

abbrev Reaches : {A : Type 0} → ℕ → (A → Type 0) → (List ℕ → Reading (A × List ℕ)) → Type 0
Reaches k P read = (bs tail : List ℕ) → k ≤ length bs → Alike k P bs tail (read bs) (read (bs ++ tail))

-- ---- readers one after the other
module _ {A B : Type 0} {P : A → Type 0} {Q : B → Type 0} (j k : ℕ) (read : List ℕ → Reading (A × List ℕ)) (f : A → List ℕ → Reading (B × List ℕ)) where
  reach_then : Reaches j P read → ((a : A) → P a → Reaches k Q (f a)) → Reaches (j + k) Q (λ bs. read bs then f)
  reach_then r s bs tail h = go (r bs tail (omega arith))
    where
      go : Alike j P bs tail (read bs) (read (bs ++ tail)) → Alike (j + k) Q bs tail (read bs then f) (read (bs ++ tail) then f)
      go (stops n d e) = stops n (ap (λ x. x then f) d) (ap (λ x. x then f) e)
      go (goes a rest p d e l) = on (s a p rest tail (omega arith))
        where
          on : Alike k Q rest tail (f a rest) (f a (rest ++ tail)) → Alike (j + k) Q bs tail (read bs then f) (read (bs ++ tail) then f)
          on (stops n d' e') = stops n (ap (λ x. x then f) d ∙ d') (ap (λ x. x then f) e ∙ e')
          on (goes b last q d' e' l') = goes b last q (ap (λ x. x then f) d ∙ d') (ap (λ x. x then f) e ∙ e') (omega arith)

module _ {A : Type 0} {P : A → Type 0} where
  reach_more : (j k : ℕ) (read : List ℕ → Reading (A × List ℕ)) → j ≤ k → Reaches j P read → Reaches k P read
  reach_more j k read h r bs tail l = go (r bs tail (omega arith))
    where
      go : Alike j P bs tail (read bs) (read (bs ++ tail)) → Alike k P bs tail (read bs) (read (bs ++ tail))
      go (stops n d e) = stops n d e
      go (goes a rest p d e m) = goes a rest p d e (omega arith)

  reach_read : (a : A) → P a → Reaches 0 P (λ bs. accepted (a, bs))
  reach_read a p bs tail h = goes a bs p refl refl (omega arith)

  reach_if : (k : ℕ) (b : Bool) (n : ℕ) (read : List ℕ → Reading (A × List ℕ)) → (T (not b) → Reaches k P read) → Reaches k P (λ bs. refuse_if b n (read bs))
  reach_if k true n read r bs tail h = stops n refl refl
  reach_if k false n read r bs tail h = r tt bs tail h

  reach_by : (k n : ℕ) (read : List ℕ → Reading (A × List ℕ)) → Reaches k P read → Reaches k P (λ bs. refuse_by n (read bs))
  reach_by k zero read r bs tail h = r bs tail h
  reach_by k (suc n) read r bs tail h = stops (suc n) refl refl

  reach_so : {Q : A → Type 0} (k : ℕ) (read : List ℕ → Reading (A × List ℕ)) → ((a : A) → P a → Q a) → Reaches k P read → Reaches k Q read
  reach_so {Q} k read so r bs tail h = go (r bs tail h)
    where
      go : Alike k P bs tail (read bs) (read (bs ++ tail)) → Alike k Q bs tail (read bs) (read (bs ++ tail))
      go (stops n d e) = stops n d e
      go (goes a rest p d e m) = goes a rest (so a p) d e m

-- ---- fields
abbrev any : {A : Type 0} → A → Type 0
any a = Unit {0}

reach_byte : Reaches 1 any byte
reach_byte [] tail h = absurd (omega arith)
reach_byte (x ∷ bs) tail h = goes x bs tt refl refl (omega arith)

reach_two : Reaches 2 any two_bytes
reach_two [] tail h = absurd (omega arith)
reach_two (x ∷ []) tail h = absurd (omega arith)
reach_two (x ∷ y ∷ bs) tail h = goes (x, y) bs tt refl refl (omega arith)

module _ {S A : Type 0} (field : List ℕ → Reading (A × List ℕ)) (check : S → A → ℕ) (next : S → A → S) (k : ℕ) (r : Reaches k any field) where
  reach_each : (n : ℕ) (s : S) → Reaches (k * n) (λ xs. length xs ≡ n) (read_each field check next n s)
  unfolding read_each
  reach_each zero s = reach_more 0 (k * 0) (λ bs. accepted ([], bs)) (omega arith) (reach_read [] refl)
  reach_each (suc n) s =
      reach_more (k + k * n) (k * suc n) (read_each field check next (suc n) s) (omega arith)
      (reach_then k (k * n) field (λ x rest. refuse_by (check s x) (read_each field check next n (next s x) rest then (λ xs rest. accepted (x ∷ xs, rest)))) r
      (λ x u. reach_by (k * n) (check s x) (λ rest. read_each field check next n (next s x) rest then (λ xs rest. accepted (x ∷ xs, rest)))
      (reach_more (k * n + 0) (k * n) (λ rest. read_each field check next n (next s x) rest then (λ xs rest. accepted (x ∷ xs, rest))) (omega arith)
      (reach_then (k * n) 0 (read_each field check next n (next s x)) (λ xs rest. accepted (x ∷ xs, rest)) (reach_each n (next s x)) (λ xs e.
      reach_read (x ∷ xs) (ap suc e))))))

-- n fields, at most m
reach_fields : {S A : Type 0} (field : List ℕ → Reading (A × List ℕ)) (k : ℕ) → Reaches k any field
    → (check : S → A → ℕ) (next : S → A → S) (m n : ℕ) (s : S) → n ≤ m
    → Reaches (k * m) (λ xs. length xs ≤ m) (read_each field check next n s)
reach_fields field k r check next m n s h = reach_more (k * n) (k * m) (read_each field check next n s) (mul-le-mul_left k h)
    (reach_so (k * n) (read_each field check next n s) (λ xs e. omega arith) (reach_each field check next k r n s))

reach_count : (limit : ℕ) → Reaches 1 (λ n. n ≤ limit) (read_count limit)
reach_count limit = reach_then 1 0 byte (λ n rest. refuse_if (ltb limit n) 2 (accepted (n, rest))) reach_byte (λ n u.
    reach_if 0 (ltb limit n) 2 (λ bs. accepted (n, bs)) (λ t. reach_read n (nltb→le limit n t)))

reach_wide : Reaches 2 any read_wide_count
reach_wide = reach_then 2 0 two_bytes (λ w rest. refuse_if (ltb entry_limit (w.0 + 256 * w.1)) 2 (accepted (w.0 + 256 * w.1, rest))) reach_two
    (λ w u. reach_if 0 (ltb entry_limit (w.0 + 256 * w.1)) 2 (λ bs. accepted (w.0 + 256 * w.1, bs)) (λ t. reach_read (w.0 + 256 * w.1) tt))

-- ---- sections
-- the bytes of a side's nodes, of a list and of a ranking at most, and of a section of each, where an entry has w bytes
abbrev nodes_reach : ℕ
nodes_reach = 1 + 1 * node_limit

abbrev list_reach : ℕ → ℕ
list_reach w = 1 + w * list_limit

abbrev ranking_reach : ℕ → ℕ
ranking_reach w = 2 + w * list_limit

abbrev lists_reach : ℕ → ℕ
lists_reach w = 2 + list_reach w * node_limit

abbrev rankings_reach : ℕ → ℕ
rankings_reach w = 2 + ranking_reach w * node_limit

-- of the whole
abbrev roster_reach : ℕ → ℕ
roster_reach w = nodes_reach + (nodes_reach + (lists_reach w + rankings_reach w))

reach_nodes : Reaches nodes_reach (λ qs. length qs ≤ node_limit) read_nodes
reach_nodes = reach_then 1 (1 * node_limit) (read_count node_limit) read_quotas (reach_count node_limit) (λ n h.
    reach_fields byte 1 reach_byte quota_check (λ so q. so + q) node_limit n 0 h)

module _ {A : Type 0} (field : List ℕ → Reading (A × List ℕ)) (total : List A → ℕ) (k n : ℕ) (r : Reaches k any field) where
  abbrev summed : ℕ → List A → List ℕ → Reading (List A × List ℕ)
  summed w xs rest = refuse_if (not (eqb w (total xs))) 7 (accepted (xs, rest))

  reach_section : Reaches (2 + (k * n + 0)) any (read_section field total n)
  reach_section = reach_then 2 (k * n + 0) read_wide_count (λ w rest. read_many field n rest then summed w) reach_wide
      (λ w u. reach_then (k * n) 0 (read_many field n) (summed w) (reach_each {S = Unit {0}} field (λ s x. 0) (λ s x. s) k r n tt)
      (λ xs e. reach_if 0 (not (eqb w (total xs))) 7 (λ bs. accepted (xs, bs)) (λ t. reach_read xs tt)))

module _ (L : Layout) (w : ℕ) (field : Reaches w any L.field) (short : (count : ℕ) → count ≤ node_limit → L.longest count ≤ list_limit) where
  reach_list : (longest count : ℕ) → longest ≤ list_limit → Reaches (list_reach w) any (read_list L longest count)
  reach_list longest count h = reach_then 1 (w * list_limit) (read_count longest) (read_entries L count) (reach_count longest)
      (λ n l. reach_so (w * list_limit) (read_entries L count n) (λ xs e. tt)
      (reach_fields L.field w field (entry_check count) (λ seen x. seen ++ x ∷ []) list_limit n [] (omega arith)))

  module _ (longest count : ℕ) (h : longest ≤ list_limit) where
    abbrev ranking : List Entry → List Entry → List ℕ → Reading (Ranking × List ℕ)
    ranking xs ys rest = accepted (record { strict = xs; tied = ys }, rest)

    abbrev tied : ℕ → List Entry → List ℕ → Reading (Ranking × List ℕ)
    tied b xs rest = read_tied L count xs b rest then ranking xs

    abbrev ranked : ℕ → ℕ → List ℕ → Reading (Ranking × List ℕ)
    ranked a b rest = read_entries L count a rest then tied b

    reach_ranked : (a b : ℕ) → a + b ≤ list_limit → Reaches (w * list_limit) any (ranked a b)
    reach_ranked a b l = reach_more (w * a + (w * b + 0)) (w * list_limit) (ranked a b) (omega (arith, mul-le-mul_left w l))
        (reach_then (w * a) (w * b + 0) (read_entries L count a) (tied b)
        (reach_fields L.field w field (entry_check count) (λ seen x. seen ++ x ∷ []) a a [] (omega arith))
        (λ xs e. reach_then (w * b) 0 (read_tied L count xs b) (ranking xs)
        (reach_fields L.field w field (tied_check count) (λ s x. record { seen = s.seen ++ x ∷ []; last = x }) b b
        (record { seen = xs; last = no_entry }) (omega arith))
        (λ ys e. reach_read (record { strict = xs; tied = ys }) tt)))

    reach_ranking : Reaches (ranking_reach w) any (read_ranking L longest count)
    reach_ranking = reach_more (1 + (1 + w * list_limit)) (ranking_reach w) (read_ranking L longest count) (omega arith)
        (reach_then 1 (1 + w * list_limit) byte (λ a rest. byte rest then (λ b rest. refuse_if (ltb longest (a + b)) 2 (ranked a b rest))) reach_byte
        (λ a u. reach_then 1 (w * list_limit) byte (λ b rest. refuse_if (ltb longest (a + b)) 2 (ranked a b rest)) reach_byte
        (λ b u. reach_if (w * list_limit) (ltb longest (a + b)) 2 (ranked a b) (λ t. given (nltb→le longest (a + b) t) (λ l. reach_ranked a b (omega arith))))))

  -- no more bytes are looked at
  reach_sections : Reaches (roster_reach w) any (read_sections L)
  reach_sections = reach_then nodes_reach (nodes_reach + (lists_reach w + rankings_reach w)) read_nodes second reach_nodes (λ qs s.
      reach_then nodes_reach (lists_reach w + rankings_reach w) read_nodes (third qs) reach_nodes (λ qt t.
      reach_then (lists_reach w) (rankings_reach w) (lists qs qt) (fourth qs qt)
      (reach_more (2 + (list_reach w * length qs + 0)) (lists_reach w) (lists qs qt) (omega (arith, mul-le-mul_left (list_reach w) s))
      (reach_section (read_list L (L.longest (length qt)) (length qt)) total_s (list_reach w)
      (length qs) (reach_list (L.longest (length qt)) (length qt) (short (length qt) t)))) (λ ls u.
      reach_more (rankings_reach w + 0) (rankings_reach w) (fourth qs qt ls) (omega arith) (reach_then (rankings_reach w) 0 (rankings qs qt) (last qs qt ls)
      (reach_more (2 + (ranking_reach w * length qt + 0)) (rankings_reach w) (rankings qs qt) (omega (arith, mul-le-mul_left (ranking_reach w) t))
      (reach_section (read_ranking L (L.longest (length qs)) (length qs)) total_t
      (ranking_reach w) (length qt) (reach_ranking (L.longest (length qs)) (length qs) (short (length qs) s)))) (λ ts u.
      reach_read (record { quotas_s = qs; quotas_t = qt; lists_s = ls; lists_t = ts }) tt)))))
    where
      lists : List ℕ → List ℕ → List ℕ → Reading (List (List Entry) × List ℕ)
      lists qs qt rest = read_section (read_list L (L.longest (length qt)) (length qt)) total_s (length qs) rest

      rankings : List ℕ → List ℕ → List ℕ → Reading (List Ranking × List ℕ)
      rankings qs qt rest = read_section (read_ranking L (L.longest (length qs)) (length qs)) total_t (length qt) rest

      last : List ℕ → List ℕ → List (List Entry) → List Ranking → List ℕ → Reading (Roster × List ℕ)
      last qs qt ls ts rest = accepted (record { quotas_s = qs; quotas_t = qt; lists_s = ls; lists_t = ts }, rest)

      fourth : List ℕ → List ℕ → List (List Entry) → List ℕ → Reading (Roster × List ℕ)
      fourth qs qt ls rest = rankings qs qt rest then last qs qt ls

      third : List ℕ → List ℕ → List ℕ → Reading (Roster × List ℕ)
      third qs qt rest = lists qs qt rest then fourth qs qt

      second : List ℕ → List ℕ → Reading (Roster × List ℕ)
      second qs rest = read_nodes rest then third qs

  -- a longer file is read as its first bytes, one more than are looked at
  read_front_by : (k : ℕ) → roster_reach w < k → (f : List ℕ) → read_roster_by L (take k f) ≡ read_roster_by L f
  unfolding read_roster_by
  read_front_by k more f = by_cases (dec_lt k (length f))
      (λ h. let l : length (take k f) ≡ k = length-take-le k f (omega arith) in
      ap one_sided (same (read_sections L (take k f)) (read_sections L (take k f ++ drop k f)) l (reach_sections (take k f) (drop k f) (omega arith)))
      ∙ ap (λ b. one_sided (whole (read_sections L b))) (take-append-drop k f))
      (λ h. ap (λ b. one_sided (whole (read_sections L b))) (take_all k f (omega arith)))
    where
      over : (r : Roster) (rest tail : List ℕ) → 0 < length rest → whole (accepted (r, rest)) ≡ whole (accepted (r, rest ++ tail))
      over r [] tail h = absurd (omega arith)
      over r (x ∷ rest) tail h = refl

      same : (a b : Reading (Roster × List ℕ)) → length (take k f) ≡ k → Alike (roster_reach w) any (take k f) (drop k f) a b → whole a ≡ whole b
      same a b l (stops n d e) = ap whole d ∙ sym (ap whole e)
      same a b l (goes r rest p d e m) = ap whole d ∙ over r rest (drop k f) (omega arith) ∙ sym (ap whole e)

-- ---- files with shifts
reach_shifted : Reaches 2 any shifted.field
reach_shifted = reach_then 2 0 two_bytes (λ w rest. accepted (record { number = w.0; shift = w.1 }, rest)) reach_two (λ w u.
    reach_read (record { number = w.0; shift = w.1 }) tt)

-- no list has more than 32 entries
short_shifted : (count : ℕ) → count ≤ node_limit → shifted.longest count ≤ list_limit
short_shifted count h = omega arith

-- "the program reads at most 4,263"
pub read_front : (f : List ℕ) → read_roster (take input_size f) ≡ read_roster f
read_front f = read_front_by shifted 2 reach_shifted short_shifted input_size (omega arith) f
