-- The bytes written where a surveyor joins are those of the roster with the joiner; and a stand's list is found too long where it is.
use Rattle.std.specs.Prelude.{Result}
use Rattle.std.specs.declared.result.Result.TheVariants.{Ok, Err}
use Rattle.std.specs.Prelude.{ℕ, suc, ◌+◌, ◌/◌, ◌%◌, ◌≤◌, ◌<◌, ◌≡◌, Bool, true, false, not, ◌||◌, take, drop, get_or, T}
use Rattle.std.proofs.Common.{zero-le, suc-le-suc, arith, sym, ◌∙◌, subst, length-append, lt-ltb, le-ltb, le-leb}
use Rattle.std.proofs.Math.Path.{refl, ap, ap₂}
use Rattle.std.proofs.Math.Bool.{cond}
use mathlib.Core.List.{List, [], ◌∷◌, ◌++◌, map, append_assoc, append-nil}
use Rattle.std.proofs.Math.ListN.{length}
use Rattle.std.proofs.lemmas.List.{length-map}
use Rattle.std.proofs.Math.Dec.{ltb}
use Rattle.std.proofs.lemmas.Bool.{lt-leb}
use Rattle.lists.specs.Test.{given, and_l, and_r, false_t}
use Rattle.lists.specs.Sum.{sum, ∈_range}
use Rattle.lists.specs.Keep.{all?, any?, keep, gather, keep_cong}
use Rattle.lists.specs.Ranges.{gather_append}
use Rattle.model.specs.Limits.{node_limit, quota_limit, quota_sum_limit, list_limit, shift_limit, entry_width}
use Rattle.model.specs.Reading.{Reading, accepted, refused, whole}
use Rattle.model.specs.Roster.{Entry, Ranking, Roster, surveyor_count, stand_count, entries, has, shifts, list_fits, ranking_fits, fits}
use Rattle.model.specs.RosterFile.{shifted, list_bytes, entries_bytes, ranking_bytes, write_roster, read_list, read_roster}
use Rattle.model_changes.specs.Changes.{joiner_at, entered, joined, no_place, too_long, joined_by, join_on}
use Rattle.theory_files.specs.Reads.{is_bytes, whole_accepted}
use Rattle.theory_files.specs.Layouts.{in_shifted}
use Rattle.theory_files.specs.Sections.{held, list}
use Rattle.theory_files.specs.ByLists.{list_short, ranking_list, fits_lists}
use Rattle.theory_files.specs.Rosters.{read_write, read_fits}
use Rattle.theory_files.specs.Offsets.{lists_start, ranking_section, offsets, rankings_from_law}
use Rattle.theory_files.specs.Joiner.{joiner_short}
use Rattle.theory_files.specs.Joined.{joined_counts, fits_joined}
use Rattle.roster_reading.specs.Slot.{at_slot_law}
use Rattle.roster_positions.specs.Tables.{behind}
use Rattle.roster_positions.specs.Rows.{bytes_of, bytes_length, ranking_is}
use Rattle.answers.specs.declared.Refusal.{Refusal}
use Rattle.answers.specs.declared.Refusal.TheVariants.{QuotaTooHigh, RosterFull}
use Rattle.roster_parts.specs.declared.RosterBytes.{RosterBytes}
use Rattle.roster_parts.specs.Rankings.{ranking_written, gather_from, rankings_are}
use Rattle.roster_parts.specs.Places.{quotas_part, stands_part, surveyors_are, stands_are, lists_behind, lists_part}
use Rattle.roster_parts.specs.Growth.{Holds}
use Rattle.roster_parts.specs.Gives.{makes_as, Gives, gives_refused, gives_held}
use Rattle.roster_with.specs.Entering.{asked, shifts_at, own, joiner_in, with_last, entering}
use Rattle.roster_with.specs.WithJoiner.{nodes_with, lists_with, rankings_with, end_at, long_from, joined_bytes}
use Rattle.roster_with.specs.Enters.{EntersIf}
use Rattle.roster_join.specs.Listing.{marks_of, MadeBy}

-- ---- the joiner's entries at a stand, by the marks of the list
one_each : (p : ℕ → Bool) (g : ℕ → Entry) (ks : List ℕ) → map g (keep p ks) ≡ gather (λ k. cond (p k) (g k ∷ []) []) ks
one_each p g [] = refl
one_each p g (k ∷ ks) = go (p k) (one_each p g ks)
  where
    go : (b : Bool) → map g (keep p ks) ≡ gather (λ k. cond (p k) (g k ∷ []) []) ks
        → map g (cond b (k ∷ keep p ks) (keep p ks)) ≡ cond b (g k ∷ []) [] ++ gather (λ k. cond (p k) (g k ∷ []) []) ks
    go true e = ap (λ z. g k ∷ z) e
    go false e = e

module _ (s : ℕ) (xs : List Entry) (j : ℕ) (h : 1 ≤ j) where
  shifts_are : shifts_at (marks_of xs) j ≡ keep (λ k. has (record { number = j; shift = k }) xs) shifts
  shifts_are = keep_cong (asked (marks_of xs) j) (λ k. has (record { number = j; shift = k }) xs) shifts
      (λ k m. given (∈_range shift_limit 1 m) (λ (a, b). ap (λ y. has y xs) (at_slot_law (record { number = j; shift = k }) (h, a, omega arith))))

  joiner_is : joiner_in s (shifts_at (marks_of xs) j) ≡ joiner_at s xs j
  joiner_is = ap (joiner_in s) shifts_are
      ∙ one_each (λ k. has (record { number = j; shift = k }) xs) (own s) shifts

  joiner_count : length (shifts_at (marks_of xs) j) ≡ length (joiner_at s xs j)
  joiner_count = sym (length-map (shifts_at (marks_of xs) j) (own s)) ∙ ap length joiner_is

-- ---- the stands' lists: the length bytes of a list within the limit have room for the joiner's entries
abbrev with_tied : List Entry → Ranking → Ranking
with_tied last R = record { strict = R.strict; tied = R.tied ++ last }

module _ (last : List Entry) (R : Ranking) where
  abbrev strict_length : ℕ
  strict_length = (length (bytes_of R.strict) / entry_width) % 256

  abbrev tie_length : ℕ
  tie_length = (length (bytes_of R.tied) / entry_width + length last) % 256

  one_entered : length (entries R) ≤ list_limit → length last ≤ shift_limit
      → with_last last (bytes_of R.strict) (bytes_of R.tied) ≡ ranking_bytes shifted (with_tied last R)
  one_entered h k =
      let l = length-append R.strict R.tied in
      let m = length-append R.tied last in
      ap (λ z. strict_length ∷ tie_length ∷ z)
      (append_assoc (bytes_of R.strict) (bytes_of R.tied) (bytes_of last)
      ∙ ap (λ z. bytes_of R.strict ++ z) (sym (gather_append shifted.bytes R.tied last)))
      ∙ ranking_written (with_tied last R) strict_length tie_length (omega (arith, bytes_length R.strict)) (omega (arith, bytes_length R.tied))

module _ (count s : ℕ) (xs : List Entry) where
  each_entered : (j : ℕ) → 1 ≤ j → (ts : List Ranking) → T (all? (ranking_fits list_limit count) ts)
      → gather_from (entering s (marks_of xs)) j ts ≡ gather (ranking_bytes shifted) (entered s xs j ts)
  unfolding gather_from
  each_entered j h [] t = refl
  each_entered j h (R ∷ ts) t =
      ap₂ (λ a b. a ++ b)
      (ap (λ z. with_last z (bytes_of R.strict) (bytes_of R.tied)) (joiner_is s xs j h)
      ∙ one_entered (joiner_at s xs j) R
      (list_short list_limit count (entries R)
      (ranking_list list_limit count R (and_l (ranking_fits list_limit count R) (all? (ranking_fits list_limit count) ts) t)))
      (joiner_short s xs j))
      (each_entered (suc j) (omega arith) ts (and_r (ranking_fits list_limit count R) (all? (ranking_fits list_limit count) ts) t))

-- ---- the test for one that is too long
abbrev long : Ranking → Bool
long R = ltb list_limit (length (entries R))

module _ (s : ℕ) (xs : List Entry) where
  one_long : (j : ℕ) → 1 ≤ j → (R : Ranking)
      → length R.strict + length R.tied + length (shifts_at (marks_of xs) j) ≡ length (entries (with_tied (joiner_at s xs j) R))
  one_long j h R = omega (
    arith,
    joiner_count s xs j h,
    length-append R.strict (R.tied ++ joiner_at s xs j),
    length-append R.tied (joiner_at s xs j),
  )

  long_is : (ts : List Ranking) (f : List ℕ) (at : ℕ) (post : List ℕ) → drop at f ≡ gather (ranking_bytes shifted) ts ++ post → (j : ℕ) → 1 ≤ j
      → long_from (marks_of xs) f (length ts) j at ≡ any? long (entered s xs j ts)
  unfolding long_from
  long_is [] f at post e j h = refl
  long_is (R ∷ ts) f at post e j h =
      let rest = gather (ranking_bytes shifted) ts in
      given (ranking_is f at R (rest ++ post) (e ∙ append_assoc (ranking_bytes shifted R) rest post)) (λ q.
      ap₂ (λ a b. ltb list_limit a || b)
      (ap₂ (λ a b. a + b + length (shifts_at (marks_of xs) j)) q.count q.tie_count ∙ one_long j h R)
      (long_is ts f (behind f at) post q.rest (suc j) (omega arith)))

module _ (f : List ℕ) (r : Roster) (e : write_roster r ≡ f) (ok : T (fits r)) (q : ℕ) (xs : List Entry) where
  abbrev ns : ℕ
  ns = surveyor_count r

  abbrev nt : ℕ
  nt = stand_count r

  nodes_are : nodes_with f ns nt q ≡ list_bytes (r.quotas_s ++ q ∷ []) ++ list_bytes r.quotas_t
  nodes_are =
      let n : ns + 1 ≡ length (r.quotas_s ++ q ∷ []) = omega (arith, length-append r.quotas_s (q ∷ [])) in
      ap₂ (λ x y. ((((ns + 1) ∷ []) ++ x) ++ q ∷ []) ++ y) (quotas_part f r e) (stands_part f r e)
      ∙ ap (λ k. k ∷ ((r.quotas_s ++ q ∷ []) ++ list_bytes r.quotas_t)) n

  from_end : drop (end_at f ns nt) f ≡ ranking_section shifted r
  from_end = lists_behind r.lists_s ns (fits_lists r ok).count_s f (lists_start r) (ranking_section shifted r) (offsets shifted f r e).lists
      (suc-le-suc zero-le)

  lists_are : lists_with f (lists_start r) (end_at f ns nt) (entries_bytes shifted xs) ≡ gather (entries_bytes shifted) (r.lists_s ++ xs ∷ [])
  lists_are =
      ap₂ (λ x y. x ++ y)
      (lists_part r.lists_s ns (fits_lists r ok).count_s f (lists_start r) (ranking_section shifted r) (offsets shifted f r e).lists
      (suc-le-suc zero-le))
      (sym (append-nil (entries_bytes shifted xs)))
      ∙ sym (gather_append (entries_bytes shifted) r.lists_s (xs ∷ []))

  -- behind the surveyors' lists and the count of two bytes
  rankings_place : drop (end_at f ns nt + 2) f ≡ gather (ranking_bytes shifted) r.lists_t ++ []
  rankings_place = rankings_from_law shifted f r (end_at f ns nt) from_end

  rankings_entered : rankings_with f (end_at f ns nt + 2) nt (ns + 1) (marks_of xs) ≡ gather (ranking_bytes shifted) (entered (suc ns) xs 1 r.lists_t)
  rankings_entered =
      let n : ns + 1 ≡ suc ns = omega arith in
      ap₂ (λ k s. rankings_with f (end_at f ns nt + 2) k s (marks_of xs)) (sym (fits_lists r ok).count_t) n
      ∙ rankings_are (entering (suc ns) (marks_of xs)) r.lists_t f (end_at f ns nt + 2) [] rankings_place 1
      ∙ each_entered ns (suc ns) xs 1 (omega arith) r.lists_t (fits_lists r ok).fit_t

  joined_long : long_from (marks_of xs) f nt 1 (end_at f ns nt + 2) ≡ too_long (joined r q xs)
  unfolding joined
  joined_long = ap (λ k. long_from (marks_of xs) f k 1 (end_at f ns nt + 2)) (sym (fits_lists r ok).count_t)
      ∙ long_is (suc ns) xs r.lists_t f (end_at f ns nt + 2) [] rankings_place 1 (omega arith)

  module _ (hq : q ≤ quota_limit) (room : ns < node_limit) (hs : sum (λ x. x) r.quotas_s + q ≤ quota_sum_limit) (fit : T (list_fits list_limit nt xs))
    where
      joined_gives : T (not (too_long (joined r q xs))) → (b : RosterBytes)
          → Holds (joined_bytes f ns nt (end_at f ns nt) q (entries_bytes shifted xs) (marks_of xs)) b → Gives (accepted (joined r q xs)) (Ok b)
      unfolding joined
      joined_gives short b h = gives_held (joined r q xs) (fits_joined r q xs ok hq room hs fit short)
          (nodes_with f ns nt q) (lists_with f (lists_start r) (end_at f ns nt) (entries_bytes shifted xs))
          (rankings_with f (end_at f ns nt + 2) nt (ns + 1) (marks_of xs)) nodes_are lists_are rankings_entered (ns + 1) nt
          (omega (arith, (joined_counts r q xs ok).0)) (joined_counts r q xs ok).1 h

      enters_gives : (c : Result RosterBytes Refusal) → MadeBy f ns nt q (entries_bytes shifted xs) (accepted xs) c → Gives (joined_by r q (accepted xs)) c
      enters_gives c k = go (too_long (joined r q xs)) refl (subst (λ b. EntersIf false b bytes c) joined_long k)
        where
          bytes : List ℕ
          bytes = joined_bytes f ns nt (end_at f ns nt) q (entries_bytes shifted xs) (marks_of xs)

          go : (b : Bool) → too_long (joined r q xs) ≡ b → EntersIf false b bytes c → Gives (cond b (refused 2) (accepted (joined r q xs))) c
          go true e h = h
          go false e h = makes_as c (joined_gives (false_t e)) h

-- ---- the call on the roster that the file is
module _ (r : Roster) (q : ℕ) (file : List ℕ) where
  abbrev made : Reading Roster
  made = joined_by r q (whole (read_list shifted list_limit (stand_count r) file))

  above_quota : quota_limit < q → join_on r q file ≡ refused 3
  unfolding join_on
  above_quota h = ap (λ b. cond b (refused 3) (cond (no_place r q) (refused 17) made)) (lt-ltb quota_limit q h)

  within_quota : q ≤ quota_limit → join_on r q file ≡ cond (no_place r q) (refused 17) made
  unfolding join_on
  within_quota h = ap (λ b. cond b (refused 3) (cond (no_place r q) (refused 17) made)) (le-ltb quota_limit q h)

  no_number : node_limit ≤ surveyor_count r → cond (no_place r q) (refused 17) made ≡ refused 17
  no_number h = ap (λ b. cond (b || ltb quota_sum_limit (sum (λ x. x) r.quotas_s + q)) (refused 17) made) (le-leb node_limit (surveyor_count r) h)

  over_sum : surveyor_count r < node_limit → quota_sum_limit < sum (λ x. x) r.quotas_s + q → cond (no_place r q) (refused 17) made ≡ refused 17
  over_sum h l = ap₂ (λ a b. cond (a || b) (refused 17) made) (lt-leb node_limit (surveyor_count r) h) (lt-ltb quota_sum_limit (sum (λ x. x) r.quotas_s + q) l)

  has_place : surveyor_count r < node_limit → sum (λ x. x) r.quotas_s + q ≤ quota_sum_limit → cond (no_place r q) (refused 17) made ≡ made
  has_place h l = ap₂ (λ a b. cond (a || b) (refused 17) made) (lt-leb node_limit (surveyor_count r) h) (le-ltb quota_sum_limit (sum (λ x. x) r.quotas_s + q) l)

module _ (f : List ℕ) (is_b : T (is_bytes f)) (r : Roster) (a : read_roster f ≡ accepted r) (q : ℕ) (file : List ℕ) where
  pub joins_quota : quota_limit < q → Gives (join_on r q file) (Err QuotaTooHigh)
  joins_quota h = gives_refused (join_on r q file) QuotaTooHigh (above_quota r q file h)

  module _ (hq : q ≤ quota_limit) (ns : ℕ) (d : ns ≡ get_or f 0 0) where
    same : ns ≡ surveyor_count r
    same = surveyors_are f r (read_write f r is_b a) ns d

    pub joins_full : node_limit ≤ ns → Gives (join_on r q file) (Err RosterFull)
    joins_full h = gives_refused (join_on r q file) RosterFull (within_quota r q file hq ∙ no_number r q file (omega (arith, same)))

    module _ (room : ns < node_limit) (total : ℕ) (w : total ≡ sum (λ x. x) (take ns (drop 1 f))) where
      sum_is : total ≡ sum (λ x. x) r.quotas_s
      sum_is = w ∙ ap (λ k. sum (λ x. x) (take k (drop 1 f))) same ∙ ap (sum (λ x. x)) (quotas_part f r (read_write f r is_b a))

      pub joins_over : quota_sum_limit < total + q → Gives (join_on r q file) (Err RosterFull)
      joins_over h = gives_refused (join_on r q file) RosterFull
          (within_quota r q file hq ∙ over_sum r q file (omega (arith, same)) (omega (arith, sum_is)))

      pub joins : total + q ≤ quota_sum_limit → T (is_bytes file) → (nt : ℕ) → nt ≡ get_or f (ns + 1) 0
          → (c : Result RosterBytes Refusal) → MadeBy f ns nt q file (whole (read_list shifted list_limit nt file)) c → Gives (join_on r q file) c
      joins hs isF nt m c k =
          subst (λ x. Gives x c) (sym (within_quota r q file hq ∙ has_place r q file (omega (arith, same)) (omega (arith, sum_is))))
          (go (whole (read_list shifted list_limit (stand_count r) file)) refl
          (subst (λ n. MadeBy f n (stand_count r) q file (whole (read_list shifted list_limit (stand_count r) file)) c) same
          (subst (λ n. MadeBy f ns n q file (whole (read_list shifted list_limit n file)) c) (stands_are f r (read_write f r is_b a) ns d nt m) k)))
        where
          go : (x : Reading (List Entry)) → whole (read_list shifted list_limit (stand_count r) file) ≡ x
              → MadeBy f (surveyor_count r) (stand_count r) q file x c → Gives (joined_by r q x) c
          go (refused n) e k = k
          go (accepted xs) e k =
              given ((list shifted in_shifted list_limit (stand_count r)).back file xs [] isF (whole_accepted (read_list shifted list_limit (stand_count r) file) e))
              (λ (bytes, fit).
              enters_gives f r (read_write f r is_b a) (read_fits f r is_b a) q xs hq (omega (arith, same)) (omega (arith, sum_is))
              (and_r (held shifted in_shifted xs) (list_fits list_limit (stand_count r) xs) fit) c
              (subst (λ z. MadeBy f (surveyor_count r) (stand_count r) q z (accepted xs) c) (bytes ∙ append-nil (entries_bytes shifted xs)) k))
