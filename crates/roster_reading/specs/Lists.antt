-- One list at a place of a file: a surveyor's, a stand's. Its lengths are cut off, or above their limit, or its entries follow.
use Rattle.std.specs.Prelude.{ℕ, ◌+◌, ◌≤◌, ◌<◌, ◌≡◌, Bool, true, List, [], ◌∷◌, ◌++◌, length, drop, get_or, T}
use Rattle.std.proofs.Common.{arith, sym, ap, ◌∙◌}
use Rattle.lists.specs.Test.{given}
use Rattle.model.specs.Reading.{Reading, accepted, refused, ◌then◌}
use Rattle.model.specs.Roster.{Entry, Ranking, entries}
use Rattle.model.specs.RosterFile.{Layout, entry_check, read_entries, read_tied, read_list, read_ranking}
use Rattle.theory_files.specs.Reads.{is_bytes, each}
use Rattle.roster_reading.specs.Place.{place_refused, place_read}
use Rattle.roster_reading.specs.Layout.{layout_of, agrees_of}
use Rattle.roster_reading.specs.Field.{count_end, count_long, count_goes, lengths_end, lengths_long, lengths_goes, tie_behind}
use Rattle.roster_reading.specs.Row.{Shows, Marked, marked_refused, marked_as, marked_behind, marked_map, EntriesAt}

module _ (shifts : Bool) (longest other : ℕ) (f : List ℕ) (at : ℕ) where
  abbrev L : Layout
  L = layout_of shifts

  -- ---- a surveyor's list
  -- no byte for the length: 1
  pub list_end : {after : List Bool} → length f ≤ at → Marked (read_list L longest other) Shows f at (refused 1) after
  list_end h = marked_refused (count_end f at longest (read_entries L other) h)

  -- a length above its limit: 2
  pub list_long : {after : List Bool} → at < length f → longest < get_or f at 0 → Marked (read_list L longest other) Shows f at (refused 2) after
  list_long h k = marked_refused (count_long f at longest (read_entries L other) h k)

  -- a length within its limit: the answer for the entries behind it is that for the list
  pub list_goes : {after : List Bool} {r : Reading ℕ} → at < length f → get_or f at 0 ≤ longest
      → Marked (read_entries L other (get_or f at 0)) Shows f (at + 1) r after
      → Marked (read_list L longest other) Shows f at r after
  list_goes h k m = marked_behind {other = read_entries L other (get_or f at 0)} {next = at + 1} (count_goes f at longest (read_entries L other) h k) m

  -- ---- a stand's list
  abbrev ShowsR : List Bool → Ranking → Type 0
  ShowsR row R = Shows row (entries R)

  -- the bytes end inside the two lengths: 1
  pub ranking_end : {after : List Bool} → length f < at + 2 → Marked (read_ranking L longest other) ShowsR f at (refused 1) after
  ranking_end h = marked_refused (lengths_end L f at longest other h)

  -- two lengths whose sum is above the limit: 2
  pub ranking_long : {after : List Bool} → at + 1 < length f → longest < get_or f at 0 + get_or f (at + 1) 0
      → Marked (read_ranking L longest other) ShowsR f at (refused 2) after
  ranking_long h k = marked_refused (lengths_long L f at longest other h k)

  module _ (h : at + 1 < length f) (k : get_or f at 0 + get_or f (at + 1) 0 ≤ longest) {between : List Bool} {s : Reading ℕ}
      (m : Marked (read_entries L other (get_or f at 0)) Shows f (at + 2) s between) where
    -- a refusal of the strict entries is that of the list
    pub ranking_refused : {n : ℕ} → s ≡ refused n → Marked (read_ranking L longest other) ShowsR f at s between
    ranking_refused e = marked_as (sym e) (marked_refused (lengths_goes L f at longest other h k
        ∙ ap (λ r. r then tie_behind L f at longest other (get_or f (at + 1) 0))
        (place_refused f (read_entries L other (get_or f at 0) (drop (at + 2) f)) (sym e ∙ m.place))))

    module _ (is_b : T (is_bytes f)) {next : ℕ} (e : s ≡ accepted next) where
      strict : (xs : List Entry) × (read_entries L other (get_or f at 0) (drop (at + 2) f) ≡ accepted (xs, drop next f)) × (next ≤ length f)
      strict =
          given (place_read (each (agrees_of shifts).reads (entry_check other) (λ seen x. seen ++ x ∷ []) (get_or f at 0) []) f (at + 2) is_b (omega arith)
          (sym e ∙ m.place))
          (λ x. (x.value, x.is, x.within))

      -- the tie begins no further than the file's end
      pub tie_within : next ≤ length f
      tie_within = strict.2

      -- behind strict entries that are read, the answer for the tie is that for the list
      pub ranking_goes : {after : List Bool} {r : Reading ℕ} → EntriesAt shifts true other (get_or f (at + 1) 0) f next between r after
          → Marked (read_ranking L longest other) ShowsR f at r after
      ranking_goes t = given strict (λ (xs, is, w).
          marked_behind {other = λ bs. read_tied L other xs (get_or f (at + 1) 0) bs then (λ ys rest. accepted (record { strict = xs; tied = ys }, rest))}
          {next = next}
          (lengths_goes L f at longest other h k ∙ ap (λ r. r then tie_behind L f at longest other (get_or f (at + 1) 0)) is)
          (marked_map (read_tied L other xs (get_or f (at + 1) 0)) (λ ys. record { strict = xs; tied = ys }) (t xs (m.marks xs (drop next f) is))))
