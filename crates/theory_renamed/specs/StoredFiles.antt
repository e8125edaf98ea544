-- Files of a route and a roster: storing and unstoring undo each other, both ways; they keep the length, which a buffer of 4,295 bytes holds;
-- and they meet the same refusals.
use Rattle.std.specs.Prelude.{ℕ, zero, suc, ◌≤◌, ◌≡◌, refl, Bool, true, false, cond, List, [], ◌∷◌, ◌++◌, length, T, ltb}
use Rattle.std.proofs.Common.{arith, sym, ap, ap₂, ◌∙◌, nltb→le}
use Rattle.std.proofs.Math.Arith.{le→nltb}
use Rattle.lists.specs.Test.{given, T_false, true_t}
use Rattle.model.specs.Limits.{node_limit}
use Rattle.model.specs.Reading.{Reading, accepted, refused, ◌then◌, refuse_if, byte, read_each, is_bytes}
use Rattle.model.specs.Roster.{Roster, stand_count, fits}
use Rattle.model.specs.RosterFile.{read_many, read_roster, list_bytes, write_roster}
use Rattle.model_files.specs.Routes.{read_route, names_each, renumbered, way_back, roster_behind, route_first, store_of, unstore_of}
use Rattle.theory_files.specs.Reads.{accepted_value, refused-not, read_value, read_rest, then_read, refuse_read, rest_bytes}
use Rattle.theory_files.specs.Rosters.{read_write, read_fits}
use Rattle.theory_renamed.specs.RouteNumbers.{Names, each_names}

-- ---- a route, read and written
abbrev numbers : ℕ → List ℕ → Reading (List ℕ × List ℕ)
numbers n bs = read_many byte n bs

numbers_back : (n : ℕ) (bs route rest : List ℕ) → numbers n bs ≡ accepted (route, rest) → (bs ≡ route ++ rest) × (length route ≡ n)
unfolding read_each
numbers_back zero bs route rest e =
    given (read_value e) (λ (v : [] ≡ route). (read_rest e ∙ ap (λ z. z ++ rest) v, sym (ap length v)))
numbers_back (suc n) [] route rest e = refused-not e
numbers_back (suc n) (x ∷ bs) route rest e =
    given (then_read (numbers n bs) (λ xs rest. accepted (x ∷ xs, rest)) e) (λ (xs, mid, e₁, h).
    given (numbers_back n bs xs mid e₁) (λ (w, l).
    given (read_value h) (λ (v : x ∷ xs ≡ route). (
      ap (λ z. x ∷ z) (w ∙ ap (λ z. xs ++ z) (read_rest h)) ∙ ap (λ z. z ++ rest) v,
      sym (ap length v) ∙ ap suc l,
    ))))

numbers_forth : (route rest : List ℕ) → numbers (length route) (route ++ rest) ≡ accepted (route, rest)
unfolding read_each
numbers_forth [] rest = refl
numbers_forth (x ∷ route) rest = ap (λ z. z then (λ xs rest. accepted (x ∷ xs, rest))) (numbers_forth route rest)

-- a route that was read has at most 32 numbers, and its bytes stand in front of the rest
pub route_back : (bs route rest : List ℕ) → read_route bs ≡ accepted (route, rest) → (bs ≡ list_bytes route ++ rest) × (length route ≤ node_limit)
route_back [] route rest e = refused-not e
route_back (k ∷ bs) route rest e =
    given (then_read (refuse_if (ltb node_limit k) 2 (accepted (k, bs))) numbers e) (λ (n, mid, e₁, h).
    given (refuse_read (ltb node_limit k) 2 e₁) (λ (t, e₂).
    given (numbers_back n mid route rest h) (λ (w, l). (
      ap₂ ◌∷◌ (read_value e₂ ∙ sym l) (read_rest e₂ ∙ w),
      given (nltb→le node_limit k t) (λ le. given (read_value e₂) (λ (v : k ≡ n). omega arith)),
    ))))

-- a route of at most 32 numbers, written in front of some bytes, is read back with those behind it
pub route_forth : (route rest : List ℕ) → length route ≤ node_limit → read_route (list_bytes route ++ rest) ≡ accepted (route, rest)
route_forth route rest h = ap (λ b. refuse_if b 2 (accepted (length route, route ++ rest)) then numbers)
    (T_false {b = ltb node_limit (length route)} (le→nltb node_limit (length route) h))
    ∙ numbers_forth route rest

-- ---- a file that is not refused
pub record Stores (by : List ℕ → List ℕ) (f g : List ℕ) : Type 0 where
  pub route : List ℕ
  pub r : Roster
  pub fit : T (fits r)
  pub names : Names route (stand_count r)
  pub few : length route ≤ node_limit
  pub from : f ≡ list_bytes route ++ write_roster r
  pub read : read_route f ≡ accepted (route, write_roster r)
  pub to : g ≡ list_bytes route ++ write_roster (renumbered (by route) r)

module _ (by : List ℕ → List ℕ) where
  -- a file that is not refused is a route, naming each stand once, and a roster; it becomes the same route and the renumbered roster
  pub stored_parts : (f g : List ℕ) → T (is_bytes f) → route_first by (read_route f) ≡ accepted g → Stores by f g
  stored_parts f g is_b e = by_route_law (read_route f) refl e
    where
      by_names : (route file : List ℕ) (r : Roster) → read_route f ≡ accepted (route, file) → read_roster file ≡ accepted r → (b : Bool) → names_each route r ≡ b
          → cond b (accepted (list_bytes route ++ write_roster (renumbered (by route) r))) (refused 23) ≡ accepted g → Stores by f g
      by_names route file r d a true n e =
          given (route_back f route file d) (λ (w, few).
          given (rest_bytes (list_bytes route) file w is_b) (λ isF.
          given (read_write file r isF a) (λ is. record {
            route = route;
            r = r;
            fit = read_fits file r isF a;
            names = each_names route r (true_t n);
            few = few;
            from = w ∙ ap (λ z. list_bytes route ++ z) (sym is);
            read = d ∙ ap (λ z. accepted (route, z)) (sym is);
            to = sym (accepted_value e);
          })))
      by_names route file r d a false n e = refused-not e

      by_roster : (route file : List ℕ) → read_route f ≡ accepted (route, file) → (x : Reading Roster) → read_roster file ≡ x
          → roster_behind by route x ≡ accepted g → Stores by f g
      by_roster route file d (accepted r) a e = by_names route file r d a (names_each route r) refl e
      by_roster route file d (refused n) a e = refused-not e

      by_route_law : (x : Reading (List ℕ × List ℕ)) → read_route f ≡ x → route_first by x ≡ accepted g → Stores by f g
      by_route_law (accepted (route, file)) d e = by_roster route file d (read_roster file) refl e
      by_route_law (refused n) d e = refused-not e

-- two ways that lead back: of a route that names each stand once, what one makes of it does so too, and the other makes the way back of that
pub record Undoes (by back : List ℕ → List ℕ) : Type 0 where
  pub names : (route : List ℕ) (n : ℕ) → Names route n → Names (by route) n
  pub is : (route : List ℕ) (n : ℕ) → Names route n → back route ≡ way_back (by route)

-- unstoring is the way back of storing
pub store_undone : Undoes (λ route. route) way_back
store_undone = record { names = λ route n N. N; is = λ route n N. refl }

-- ---- the same refusals
refused_alike : (by back : List ℕ → List ℕ) (f : List ℕ) (n : ℕ) → route_first by (read_route f) ≡ refused n → route_first back (read_route f) ≡ refused n
refused_alike by back f n e = by_route_law (read_route f) e
  where
    by_names : (b : Bool) (x y : List ℕ) → cond b (accepted x) (refused 23) ≡ refused n → cond b (accepted y) (refused 23) ≡ refused n
    by_names true x y e = refused-not (sym e)
    by_names false x y e = e

    by_roster : (route : List ℕ) (x : Reading Roster) → roster_behind by route x ≡ refused n → roster_behind back route x ≡ refused n
    by_roster route (accepted r) e = by_names (names_each route r) (list_bytes route ++ write_roster (renumbered (by route) r))
        (list_bytes route ++ write_roster (renumbered (back route) r)) e
    by_roster route (refused k) e = e

    by_route_law : (x : Reading (List ℕ × List ℕ)) → route_first by x ≡ refused n → route_first back x ≡ refused n
    by_route_law (accepted (route, file)) e = by_roster route (read_roster file) e
    by_route_law (refused k) e = e

pub store_refused : (f : List ℕ) (n : ℕ) → store_of f ≡ refused n → unstore_of f ≡ refused n
unfolding store_of unstore_of
store_refused f n e = refused_alike (λ route. route) way_back f n e

pub unstore_refused : (f : List ℕ) (n : ℕ) → unstore_of f ≡ refused n → store_of f ≡ refused n
unfolding store_of unstore_of
unstore_refused f n e = refused_alike way_back (λ route. route) f n e
