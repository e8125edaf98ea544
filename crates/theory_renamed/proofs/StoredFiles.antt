-- The theorems that rest on specs/StoredFiles.antt. They stand here so that a wrong definition there is refused by a proof.
use Rattle.std.specs.Prelude.{ℕ, ◌+◌, ◌*◌, ◌≤◌, ◌≡◌, cond, List, ◌++◌, length, T}
use Rattle.std.proofs.Common.{arith, sym, ap, ◌∙◌, subst, length-append}
use Rattle.lists.specs.Test.{given, T_true}
use Rattle.lists.specs.Keep.{gather}
use Rattle.model.specs.Limits.{node_limit, stored_size}
use Rattle.model.specs.Reading.{accepted, refused, is_bytes}
use Rattle.model.specs.Roster.{Roster, surveyor_count, stand_count, total_s, total_t, fits}
use Rattle.model.specs.RosterFile.{shifted, list_bytes, wide_bytes, entries_bytes, ranking_bytes, write_roster_by, write_roster}
use Rattle.model_files.specs.Routes.{read_route, names_each, renumbered, way_back, roster_behind, route_first, store_of, unstore_of}
use Rattle.theory_files.specs.Rosters.{write_read, lists_size, rankings_size, roster_size_law}
use Rattle.theory_files.specs.RosterInstance.{lists_count, rankings_count}
use Rattle.theory_renamed.specs.RouteNumbers.{Names, names_each_law, back_names}
use Rattle.theory_renamed.proofs.RouteNumbers.{back_twice}
use Rattle.theory_renamed.specs.RenumberedFits.{renumbered_counts}
use Rattle.theory_renamed.proofs.RenumberedFits.{fits_renumbered, totals_renumbered, renumbered_back}
use Rattle.theory_renamed.specs.StoredFiles.{Undoes, route_forth, store_undone, stored_parts}

-- ---- the length stays
size : (s : Roster) → T (fits s)
    → length (write_roster s) ≡ surveyor_count s + stand_count s + 6 + (surveyor_count s + 2 * total_s s.lists_s) + (2 * stand_count s + 2 * total_t s.lists_t)
unfolding write_roster_by
size s ok =
    let A = wide_bytes (total_s s.lists_s) ++ gather (entries_bytes shifted) s.lists_s in
    let B = wide_bytes (total_t s.lists_t) ++ gather (ranking_bytes shifted) s.lists_t in
    omega (
      arith,
      length-append (list_bytes s.quotas_s) (list_bytes s.quotas_t ++ (A ++ B)),
      length-append (list_bytes s.quotas_t) (A ++ B),
      length-append A B,
      length-append (wide_bytes (total_s s.lists_s)) (gather (entries_bytes shifted) s.lists_s),
      length-append (wide_bytes (total_t s.lists_t)) (gather (ranking_bytes shifted) s.lists_t),
      lists_size s.lists_s,
      rankings_size s.lists_t,
      lists_count s ok,
      rankings_count s ok,
    )

same_length : (route : List ℕ) (r : Roster) → T (fits r) → Names route (stand_count r) → length (write_roster (renumbered route r)) ≡ length (write_roster r)
same_length route r ok N =
    let H = renumbered route r in
    given (fits_renumbered route r ok N) (λ okH.
    given (renumbered_counts route r ok N) (λ (cs, ct).
    given (totals_renumbered route r ok N) (λ (ts, tt').
    given (size r ok) (λ a. given (size H okH) (λ b. omega arith)))))

module _ (by : List ℕ → List ℕ) where
  stored_accepted : (route : List ℕ) (r : Roster) → T (fits r) → Names route (stand_count r) → length route ≤ node_limit
      → route_first by (read_route (list_bytes route ++ write_roster r)) ≡ accepted (list_bytes route ++ write_roster (renumbered (by route) r))
  stored_accepted route r ok N few =
      ap (route_first by) (route_forth route (write_roster r) few)
      ∙ ap (roster_behind by route) (write_read r ok)
      ∙ ap (λ b. cond b (accepted (list_bytes route ++ write_roster (renumbered (by route) r))) (refused 23))
      (T_true {b = names_each route r} (names_each_law route r N))

-- storing is the way back of unstoring
pub unstore_undone : Undoes way_back (λ route. route)
unstore_undone = record { names = back_names; is = λ route n N. sym (back_twice route n N) }

module _ (by back : List ℕ → List ℕ) (U : Undoes by back) (f g : List ℕ) (is_b : T (is_bytes f)) (e : route_first by (read_route f) ≡ accepted g) where
  -- what a file became goes back to the file
  pub undone : route_first back (read_route g) ≡ accepted f
  undone = given (stored_parts by f g is_b e) (λ S.
      let n = stand_count S.r in
      let H = renumbered (by S.route) S.r in
      given (U.names S.route n S.names) (λ N.
      given (renumbered_counts (by S.route) S.r S.fit N) (λ (cs, ct).
      ap (λ z. route_first back (read_route z)) S.to
      ∙ stored_accepted back S.route H (fits_renumbered (by S.route) S.r S.fit N) (subst (Names S.route) (sym ct) S.names) S.few
      ∙ ap (λ z. accepted (list_bytes S.route ++ write_roster z))
      (ap (λ w. renumbered w H) (U.is S.route n S.names) ∙ renumbered_back (by S.route) S.r S.fit N)
      ∙ ap accepted (sym S.from))))

  -- a file keeps its length, and that is at most 4,295
  pub kept_length : (length g ≡ length f) × (length g ≤ stored_size)
  kept_length = given (stored_parts by f g is_b e) (λ S.
      let H = renumbered (by S.route) S.r in
      given (U.names S.route (stand_count S.r) S.names) (λ N.
      given (same_length (by S.route) S.r S.fit N) (λ l.
      given (ap length S.from ∙ length-append (list_bytes S.route) (write_roster S.r)) (λ a.
      given (ap length S.to ∙ length-append (list_bytes S.route) (write_roster H)) (λ b.
      given (roster_size_law S.r S.fit) (λ c.
      given S.few (λ d. (omega arith, omega arith))))))))

-- "unstoring gives the original bytes", and storing again what was unstored gives those
module _ (f g : List ℕ) (is_b : T (is_bytes f)) where
  pub store_unstore : store_of f ≡ accepted g → unstore_of g ≡ accepted f
  unfolding store_of unstore_of
  store_unstore e = undone (λ route. route) way_back store_undone f g is_b e

  pub unstore_store : unstore_of f ≡ accepted g → store_of g ≡ accepted f
  unfolding store_of unstore_of
  unstore_store e = undone way_back (λ route. route) unstore_undone f g is_b e
