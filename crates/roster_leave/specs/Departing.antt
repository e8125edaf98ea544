-- The bytes written where a surveyor leaves are those of the roster that is left.
use Rattle.std.specs.Prelude.{ℕ, zero, suc, ◌+◌, ◌-◌, ◌≤◌, ◌<◌, ◌≡◌, Bool, ◌||◌, List, [], ◌∷◌, ◌++◌, map, length, take, drop, get_or, set, T, eqb}
use Rattle.std.specs.declared.result.Result.TheVariants.{Ok, Err}
use Rattle.std.proofs.Common.{zero-le, suc-le-suc, arith, sym, ◌∙◌, subst, append_assoc, append-nil, length-append, length-drop, length-set, length-take-le, lt-ltb, le-ltb, eq-eqb, ne_eqb}
use Rattle.std.proofs.Math.Path.{refl, ap, ap₂}
use Rattle.std.proofs.Math.Bool.{true, false, cond}
use Rattle.std.proofs.lemmas.List.{set-append_left, set_split}
use Rattle.std.proofs.Math.Seq.{split_at}
use Rattle.std.proofs.Math.Dec.{ltb}
use Rattle.lists.specs.Test.{given}
use Rattle.lists.specs.Keep.{gather}
use Rattle.lists.specs.Ranges.{gather_append}
use Rattle.model.specs.Reading.{accepted, refused}
use Rattle.model.specs.Roster.{Entry, Ranking, Roster, surveyor_count, stand_count, fits}
use Rattle.model.specs.RosterFile.{shifted, list_bytes, entries_bytes, ranking_bytes, write_roster, read_roster}
use Rattle.model_changes.specs.Changes.{departed, leave_on}
use Rattle.theory_files.specs.Reads.{is_bytes}
use Rattle.theory_files.specs.ByLists.{fits_lists}
use Rattle.theory_files.specs.Rosters.{read_write, read_fits}
use Rattle.theory_files.specs.Offsets.{lists_start, ranking_section, offsets, rankings_from_law}
use Rattle.theory_files.specs.Departed.{departed_counts, fits_departed}
use Rattle.roster_positions.specs.Rows.{bytes_of, entries_are}
use Rattle.answers.specs.declared.Refusal.TheVariants.{NoSuchSurveyor}
use Rattle.roster_parts.specs.declared.RosterBytes.{RosterBytes}
use Rattle.roster_parts.specs.Rankings.{gather_from, rankings_are}
use Rattle.roster_parts.specs.Places.{nodes_part, surveyors_are, stands_are, lists_behind, lists_part}
use Rattle.roster_parts.specs.Growth.{Holds}
use Rattle.roster_parts.specs.Gives.{Gives, gives_refused, gives_held}
use Rattle.roster_leave.specs.LeftParts.{left_by, ranking_left, nodes_left, lists_left}
use Rattle.roster_leave.specs.Left.{rankings_left, mine_at, next_at, end_at, left_bytes}

-- the bytes of a stand's list, without the number's entries
one_left : (s : ℕ) (R : Ranking) → ranking_left s (bytes_of R.strict) (bytes_of R.tied) ≡ ranking_bytes shifted (left_by s R)
one_left s R = ap₂ (λ xs ys. ranking_bytes shifted (left_by s (record { strict = xs; tied = ys }))) (entries_are R.strict) (entries_are R.tied)

each_left : (s j : ℕ) (ts : List Ranking) → gather_from (λ j. ranking_left s) j ts ≡ gather (ranking_bytes shifted) (map (left_by s) ts)
unfolding gather_from
each_left s j [] = refl
each_left s j (R ∷ ts) = ap₂ (λ x y. x ++ y) (one_left s R) (each_left s (suc j) ts)

one_less : (v : ℕ) → suc v - 1 ≡ v
one_less v = omega arith

module _ (f : List ℕ) (r : Roster) (e : write_roster r ≡ f) (ok : T (fits r)) (v : ℕ) (inside : v < surveyor_count r) where
  abbrev ns : ℕ
  ns = surveyor_count r

  abbrev nt : ℕ
  nt = stand_count r

  nodes_are : nodes_left f (ns + nt + 2) (suc v) ≡ list_bytes (set r.quotas_s v 0) ++ list_bytes r.quotas_t
  nodes_are = ap (λ z. set z (suc v) 0) (nodes_part f r e)
      ∙ ap₂ (λ n z. n ∷ z) (sym (length-set r.quotas_s v 0)) (set-append_left r.quotas_s (list_bytes r.quotas_t) v 0 inside)

  -- ---- the lists before the leaver's, the leaver's, and those behind it
  abbrev before : List (List Entry)
  before = take v r.lists_s

  abbrev own : List Entry
  own = get_or r.lists_s v []

  abbrev after : List (List Entry)
  after = drop (suc v) r.lists_s

  abbrev left : List ℕ
  left = gather (entries_bytes shifted) after ++ ranking_section shifted r

  inside_lists : v < length r.lists_s
  inside_lists = given (fits_lists r ok).count_s (λ n. omega arith)

  some_left : 0 < length left
  some_left =
      let n : 0 < length (ranking_section shifted r) = suc-le-suc zero-le in
      omega (arith, length-append (gather (entries_bytes shifted) after) (ranking_section shifted r))

  count_before : length before ≡ suc v - 1
  count_before = length-take-le v r.lists_s (omega (arith, inside_lists)) ∙ sym (one_less v)

  count_after : length after ≡ ns - suc v
  count_after = length-drop (suc v) r.lists_s ∙ ap (λ k. k - suc v) (fits_lists r ok).count_s

  from_start : drop (lists_start r) f ≡ gather (entries_bytes shifted) before ++ (entries_bytes shifted own ++ left)
  from_start = (offsets shifted f r e).lists
      ∙ ap (λ z. gather (entries_bytes shifted) z ++ ranking_section shifted r) (split_at r.lists_s v [] inside_lists)
      ∙ ap (λ z. z ++ ranking_section shifted r) (gather_append (entries_bytes shifted) before (own ∷ after))
      ∙ append_assoc (gather (entries_bytes shifted) before) (entries_bytes shifted own ++ gather (entries_bytes shifted) after) (ranking_section shifted r)
      ∙ ap (λ z. gather (entries_bytes shifted) before ++ z)
      (append_assoc (entries_bytes shifted own) (gather (entries_bytes shifted) after) (ranking_section shifted r))

  from_mine : drop (mine_at f ns nt (suc v)) f ≡ gather (entries_bytes shifted) (own ∷ []) ++ left
  from_mine = lists_behind before (suc v - 1) count_before f (lists_start r) (entries_bytes shifted own ++ left) from_start (suc-le-suc zero-le)
      ∙ ap (λ z. z ++ left) (sym (append-nil (entries_bytes shifted own)))

  from_next : drop (next_at f ns nt (suc v)) f ≡ left
  from_next = lists_behind (own ∷ []) 1 refl f (mine_at f ns nt (suc v)) left from_mine some_left

  from_end : drop (end_at f ns nt (suc v)) f ≡ ranking_section shifted r
  from_end = lists_behind after (ns - suc v) count_after f (next_at f ns nt (suc v)) (ranking_section shifted r) from_next (suc-le-suc zero-le)

  lists_are : lists_left f (lists_start r) (mine_at f ns nt (suc v)) (next_at f ns nt (suc v)) (end_at f ns nt (suc v))
      ≡ gather (entries_bytes shifted) (set r.lists_s v [])
  lists_are =
      ap₂ (λ x y. (x ++ 0 ∷ []) ++ y)
      (lists_part before (suc v - 1) count_before f (lists_start r) (entries_bytes shifted own ++ left) from_start (suc-le-suc zero-le))
      (lists_part after (ns - suc v) count_after f (next_at f ns nt (suc v)) (ranking_section shifted r) from_next (suc-le-suc zero-le))
      ∙ append_assoc (gather (entries_bytes shifted) before) (0 ∷ []) (gather (entries_bytes shifted) after)
      ∙ sym (gather_append (entries_bytes shifted) before ([] ∷ after))
      ∙ ap (gather (entries_bytes shifted)) (sym (set_split r.lists_s v [] inside_lists))

  rankings_left_law : rankings_left f (end_at f ns nt (suc v) + 2) nt (suc v) ≡ gather (ranking_bytes shifted) (map (left_by (suc v)) r.lists_t)
  rankings_left_law =
      ap (λ k. rankings_left f (end_at f ns nt (suc v) + 2) k (suc v)) (sym (fits_lists r ok).count_t)
      ∙ rankings_are (λ j. ranking_left (suc v)) r.lists_t f (end_at f ns nt (suc v) + 2) []
      (rankings_from_law shifted f r (end_at f ns nt (suc v)) from_end) 1
      ∙ each_left (suc v) 1 r.lists_t

  left_gives : {c : RosterBytes} → Holds (left_bytes f ns nt (suc v)) c → Gives (accepted (departed r (suc v))) (Ok c)
  unfolding departed
  left_gives {c} h = gives_held (departed r (suc v)) (fits_departed r v ok inside)
      (nodes_left f (ns + nt + 2) (suc v)) (lists_left f (lists_start r) (mine_at f ns nt (suc v)) (next_at f ns nt (suc v)) (end_at f ns nt (suc v)))
      (rankings_left f (end_at f ns nt (suc v) + 2) nt (suc v))
      (nodes_are ∙ ap (λ k. list_bytes (set r.quotas_s k 0) ++ list_bytes r.quotas_t) (sym (one_less v)))
      (lists_are ∙ ap (λ k. gather (entries_bytes shifted) (set r.lists_s k [])) (sym (one_less v)))
      rankings_left_law ns nt (departed_counts r v).0 (departed_counts r v).1 h

-- ---- the call on the roster that the file is
module _ (r : Roster) (s : ℕ) where
  none_outside : s ≡ 0 → leave_on r s ≡ refused 16
  unfolding leave_on
  none_outside z = ap (λ b. cond (b || ltb (surveyor_count r) s) (refused 16) (accepted (departed r s))) (eq-eqb s 0 z)

  above_outside : surveyor_count r < s → leave_on r s ≡ refused 16
  unfolding leave_on
  above_outside h = ap (λ b. cond (eqb s 0 || b) (refused 16) (accepted (departed r s))) (lt-ltb (surveyor_count r) s h) ∙ either (eqb s 0)
    where
      either : (b : Bool) → cond (b || true) (refused 16) (accepted (departed r s)) ≡ refused 16
      either true = refl
      either false = refl

  is_inside : 0 < s → s ≤ surveyor_count r → leave_on r s ≡ accepted (departed r s)
  unfolding leave_on
  is_inside h l = ap₂ (λ a b. cond (a || b) (refused 16) (accepted (departed r s))) (ne_eqb s 0 (λ (z : s ≡ 0). omega arith)) (le-ltb (surveyor_count r) s l)

module _ (f : List ℕ) (is_b : T (is_bytes f)) (r : Roster) (a : read_roster f ≡ accepted r) (ns : ℕ) (d : ns ≡ get_or f 0 0) (s : ℕ) where
  same : ns ≡ surveyor_count r
  same = surveyors_are f r (read_write f r is_b a) ns d

  pub leaves_none : s ≡ 0 → Gives (leave_on r s) (Err NoSuchSurveyor)
  leaves_none z = gives_refused (leave_on r s) NoSuchSurveyor (none_outside r s z)

  pub leaves_above : ns < s → Gives (leave_on r s) (Err NoSuchSurveyor)
  leaves_above h = gives_refused (leave_on r s) NoSuchSurveyor (above_outside r s (omega (arith, same)))

  pub leaves : 0 < s → s ≤ ns → (nt : ℕ) → nt ≡ get_or f (ns + 1) 0 → {c : RosterBytes} → Holds (left_bytes f ns nt s) c → Gives (leave_on r s) (Ok c)
  leaves h l nt m {c} k = subst (λ x. Gives x (Ok c)) (sym (is_inside r s h (omega (arith, same))))
      (by_number s h (omega (arith, same))
      (subst (λ x. Holds x c) (ap₂ (λ x y. left_bytes f x y s) same (stands_are f r (read_write f r is_b a) ns d nt m)) k))
    where
      by_number : (s : ℕ) → 0 < s → s ≤ surveyor_count r → Holds (left_bytes f (surveyor_count r) (stand_count r) s) c → Gives (accepted (departed r s)) (Ok c)
      by_number zero h l k = absurd (omega arith)
      by_number (suc v) h l k = left_gives f r (read_write f r is_b a) (read_fits f r is_b a) v (omega arith) k
