-- Where the parts stand that a change copies from a roster's bytes.
use Prim.Native.Nat.{ℕ, suc, ◌+◌, ◌-◌, ◌≤◌, ◌<◌}
use native.Mathlib.Omega.{arith}
use Rattle.std.specs.Prelude.{◌≡◌, List, [], ◌++◌, drop, get_or, T}
use Rattle.std.proofs.Math.Path.{refl, sym, ap}
use Rattle.std.proofs.Common.{◌∙◌, append_assoc, length-drop, drop_at}
use Rattle.std.proofs.Math.ListN.{length, take, length-append}
use Rattle.std.proofs.Math.Seq.{take_at}
use Rattle.lists.specs.Keep.{gather}
use Rattle.model.specs.Limits.{node_limit}
use Rattle.model.specs.Roster.{Entry, Roster, surveyor_count, stand_count, fits}
use Rattle.model.specs.RosterFile.{shifted, list_bytes, entries_bytes, write_roster_by, write_roster}
use Rattle.theory_files.specs.Offsets.{part_is, offsets}
use Rattle.theory_files.specs.RosterInstance.{ns_small, nt_small}
use Rattle.roster_positions.specs.Tables.{lists_end}
use Rattle.roster_positions.specs.Rows.{lists_are}

-- ---- both sides' counts and quotas
module _ (f : List ℕ) (r : Roster) (e : write_roster r ≡ f) where
  -- the surveyors' quotas stand behind the first byte
  pub quotas_part : take (surveyor_count r) (drop 1 f) ≡ r.quotas_s
  unfolding write_roster_by
  quotas_part = ap (λ z. take (surveyor_count r) (drop 1 z)) (sym e) ∙ take_at r.quotas_s _ (surveyor_count r) refl

  -- the stands' count and quotas stand behind those
  pub stands_part : take (stand_count r + 1) (drop (surveyor_count r + 1) f) ≡ list_bytes r.quotas_t
  unfolding write_roster_by
  stands_part =
      let k : suc (surveyor_count r) ≡ surveyor_count r + 1 = omega arith in
      let n : suc (stand_count r) ≡ stand_count r + 1 = omega arith in
      ap (λ z. take (stand_count r + 1) (drop (surveyor_count r + 1) z)) (sym e)
      ∙ ap (take (stand_count r + 1)) (drop_at (list_bytes r.quotas_s) _ (surveyor_count r + 1) k)
      ∙ take_at (list_bytes r.quotas_t) _ (stand_count r + 1) n

  -- the counts and quotas of both sides are the front of the file
  pub nodes_part : take (surveyor_count r + stand_count r + 2) f ≡ list_bytes r.quotas_s ++ list_bytes r.quotas_t
  unfolding write_roster_by
  nodes_part =
      let n : length (list_bytes r.quotas_s ++ list_bytes r.quotas_t) ≡ surveyor_count r + stand_count r + 2
      = omega (arith, length-append (list_bytes r.quotas_s) (list_bytes r.quotas_t)) in
      ap (take (surveyor_count r + stand_count r + 2)) (sym e ∙ sym (append_assoc (list_bytes r.quotas_s) (list_bytes r.quotas_t) _))
      ∙ take_at (list_bytes r.quotas_s ++ list_bytes r.quotas_t) _ (surveyor_count r + stand_count r + 2) n

-- ---- the counts, as the code reads them
module _ (f : List ℕ) (r : Roster) (e : write_roster r ≡ f) (n : ℕ) (c : n ≡ get_or f 0 0) where
  -- the first byte is the number of surveyors
  pub surveyors_are : n ≡ surveyor_count r
  surveyors_are = c ∙ (offsets shifted f r e).surveyors

  -- the byte behind the surveyors' quotas is the number of stands
  pub stands_are : (m : ℕ) → m ≡ get_or f (n + 1) 0 → m ≡ stand_count r
  stands_are m d = d ∙ ap (λ k. get_or f (k + 1) 0) surveyors_are ∙ (offsets shifted f r e).stands

  -- of a roster within the limits both counts are at most 32
  pub counts_small : T (fits r) → (m : ℕ) → m ≡ get_or f (n + 1) 0 → (n ≤ node_limit) × (m ≤ node_limit)
  counts_small ok m d = (omega (arith, surveyors_are, ns_small r ok), omega (arith, stands_are m d, nt_small r ok))

-- ---- n surveyors' lists, up to the place behind them
module _ (ls : List (List Entry)) (n : ℕ) (count : length ls ≡ n) (f : List ℕ) (at : ℕ) (post : List ℕ)
    (e : drop at f ≡ gather (entries_bytes shifted) ls ++ post) (some : 0 < length post) where
  -- from the end of the lists on, the file has what follows them
  pub lists_behind : drop (lists_end f n at) f ≡ post
  lists_behind = ap (λ k. drop (lists_end f k at) f) (sym count) ∙ (lists_are ls f at post e 0 []).1

  lists_length : length (gather (entries_bytes shifted) ls) ≡ lists_end f n at - at
  lists_length = omega (
    arith,
    sym (length-drop at f) ∙ ap length e,
    length-append (gather (entries_bytes shifted) ls) post,
    sym (length-drop (lists_end f n at) f) ∙ ap length lists_behind,
  )

  -- up to that end, the file has the bytes of the lists
  pub lists_part : take (lists_end f n at - at) (drop at f) ≡ gather (entries_bytes shifted) ls
  lists_part = part_is f at (lists_end f n at - at) (gather (entries_bytes shifted) ls) post e lists_length
