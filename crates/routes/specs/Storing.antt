-- What storing and unstoring promise: the model's answer and bytes, that the other way undoes it, and of the renumbered roster, that its strongly
-- popular plans and the finder's answers are those of before, renumbered.
use Rattle.std.specs.Prelude.{Result, ⊤}
use Rattle.std.specs.declared.result.Result.TheVariants.{Ok, Err}
use Rattle.std.specs.Prelude.{ℕ, ◌+◌, ◌≤◌, ◌<◌, ◌≡◌, refl, Bool, true, false, not, cond, List, ◌++◌, map, length, take, drop, get_or, T}
use Rattle.std.proofs.Common.{arith, sym, ap, ap₂, ◌∙◌, subst, length-take, length-drop, take_all, take_at}
use Rattle.std.proofs.Math.Dec.{not_T}
use Rattle.lists.specs.Test.{given, T_true, T_false}
use Rattle.model.specs.Limits.{node_limit, roster_size, stored_size}
use Rattle.model.specs.Reading.{Reading, accepted, refused, is_bytes}
use Rattle.model.specs.Roster.{Roster, surveyor_count, stand_count, fits}
use Rattle.model.specs.RosterFile.{read_roster, write_roster, list_bytes}
use Rattle.model.specs.Edges.{instance_of}
use Rattle.model.specs.Plans.{Plan, strong_plans}
use Rattle.model.specs.Finder.{finder_of, plan, hands_back}
use Rattle.model_desk.specs.Desk.{said, wrote}
use Rattle.model_files.specs.Routes.{read_route, names_each, renumbered, way_back, roster_behind, route_first, store_of, unstore_of, renumbered_plan}
use Rattle.model_files.specs.StoredCalls.{stored_answer, stored_lent}
use Rattle.theory_files.specs.Reads.{bytes_are, rest_bytes}
use Rattle.theory_files.specs.Rosters.{read_write, read_fits, accepted_size}
use Rattle.theory_renamed.specs.RouteNumbers.{Names, each_names, names_each_law, back_names}
use Rattle.theory_renamed.proofs.RenumberedPlans.{strong_renumbered, finder_renumbered, finder_alike}
use Rattle.theory_renamed.specs.StoredFiles.{route_back, stored_parts, store_undone}
use Rattle.theory_renamed.proofs.StoredFiles.{unstore_undone, undone, kept_length}
use Rattle.answers.specs.declared.Refusal.{Refusal}
use Rattle.answers.specs.declared.Refusal.TheVariants.{NoRoute}
use Rattle.answers.specs.RefusalCases.{number_of, reading_of}
use Rattle.answers.specs.FileCases.{file_read}
use Rattle.answers.specs.WrittenCases.{written_shown}
use Rattle.answers.specs.Settling.{Settles, settles_refused, settles_file, settles_wrote, Answers, count_of, wrote_of}
use Rattle.roster_parts.specs.declared.RosterBytes.{RosterBytes}
use Rattle.roster_parts.specs.Places.{surveyors_are, stands_are, counts_small}
use Rattle.roster_parts.specs.Growth.{written, Holds, written_few}
use Rattle.roster_routes.specs.Marking.{Numbered, Places}
use Rattle.roster_routes.specs.Reordered.{Ordered, reordered_bytes}
use Rattle.roster_routes.specs.Renumbering.{Way, way_there, way_back_law, way_ordered, reordered_gives}
use Rattle.routes.specs.Reading.{RouteAt, both, WrittenBoth}

-- ---- by the way that is gone
abbrev pub by_of : (back : Bool) → List ℕ → List ℕ
by_of back route = cond back (way_back route) route

abbrev pub turn_by : (back : Bool) → List ℕ → Reading (List ℕ)
turn_by true = unstore_of
turn_by false = store_of

turn_is : (back : Bool) (f : List ℕ) → turn_by back f ≡ route_first (by_of back) (read_route f)
unfolding store_of unstore_of
turn_is true f = refl
turn_is false f = refl

-- ---- the promise
-- "The strongly popular plan of the renumbered roster is the renumbered plan, and none stays none"
pub record Renumbered (by : List ℕ → List ℕ) (f g : List ℕ) : Type 0 where
  pub route : List ℕ
  pub r : Roster
  pub fit : T (fits r)
  pub each : T (names_each route r)
  -- "the route and then the roster"; "keeps the route in front"
  pub from : f ≡ list_bytes route ++ write_roster r
  pub to : g ≡ list_bytes route ++ write_roster (renumbered (by route) r)
  pub strong : let H = instance_of (renumbered (by route) r) in
      strong_plans H ≡ map (renumbered_plan (by route) (instance_of r) H) (strong_plans (instance_of r))
  -- what the finder answers, whichever rivals it names
  pub found : (ρ σ : Plan → Plan) (M : Plan) → finder_of (instance_of r) ρ ≡ plan M
      → let H = instance_of (renumbered (by route) r) in finder_of H σ ≡ plan (renumbered_plan (by route) (instance_of r) H M)
  pub alike : (ρ σ : Plan → Plan) → hands_back (finder_of (instance_of (renumbered (by route) r)) σ) ≡ hands_back (finder_of (instance_of r) ρ)

-- `to` is the way that is gone, `undo` the other one, `by` what `to` makes of the route
pub record StoresBy (by : List ℕ → List ℕ) (to undo : List ℕ → Reading (List ℕ)) (f o : List ℕ) (r : Result ℕ Refusal) (o' : List ℕ) : Type 0 where
  -- 15, or the route's refusal, or the roster's, or 23, each with its group, or the number of bytes written
  pub answer : written_shown r ≡ stored_answer (to f) o
  -- they are in front of the buffer, which keeps the rest; a refusal changes no byte
  pub lent : o' ≡ stored_lent (to f) o
  -- as many as were read; the other way gives them back
  pub kept : (n : ℕ) → written_shown r ≡ said (wrote n) → n ≡ length f
  pub undone : (n : ℕ) → written_shown r ≡ said (wrote n) → undo (take n o') ≡ accepted f
  pub plans : (n : ℕ) → written_shown r ≡ said (wrote n) → Renumbered by f (take n o')

renumbered_as : (back : Bool) (f g : List ℕ) → T (is_bytes f) → turn_by back f ≡ accepted g → Renumbered (by_of back) f g
renumbered_as back f g is_b e = given (stored_parts (by_of back) f g is_b (sym (turn_is back f) ∙ e)) (λ S.
    given (names_by back S.route (stand_count S.r) S.names) (λ N. record {
      route = S.route;
      r = S.r;
      fit = S.fit;
      each = names_each_law S.route S.r S.names;
      from = S.from;
      to = S.to;
      strong = strong_renumbered (by_of back S.route) S.r S.fit N;
      found = finder_renumbered (by_of back S.route) S.r S.fit N;
      alike = finder_alike (by_of back S.route) S.r S.fit N;
    }))
  where
    names_by : (back : Bool) (route : List ℕ) (n : ℕ) → Names route n → Names (by_of back route) n
    names_by true route n N = back_names route n N
    names_by false route n N = N

undoes : (back : Bool) (f g : List ℕ) → T (is_bytes f) → turn_by back f ≡ accepted g → (turn_by (not back) g ≡ accepted f) × (length g ≡ length f)
undoes true f g is_b e =
    let d = sym (turn_is true f) ∙ e in
    (turn_is false g ∙ undone way_back (λ route. route) unstore_undone f g is_b d, (kept_length way_back (λ route. route) unstore_undone f g is_b d).0)
undoes false f g is_b e =
    let d = sym (turn_is false f) ∙ e in
    (turn_is true g ∙ undone (λ route. route) way_back store_undone f g is_b d, (kept_length (λ route. route) way_back store_undone f g is_b d).0)

pub stores : (back : Bool) (f o : List ℕ) {r : Result ℕ Refusal} {o' : List ℕ} → ((i : ℕ) → get_or f i 0 < 256) → Answers stored_size (turn_by back f) o r o'
    → StoresBy (by_of back) (turn_by back) (turn_by (not back)) f o r o'
unfolding stored_answer stored_lent
stores back f o {r} {o'} low a = record {
  answer = a.answer;
  lent = a.lent;
  kept = λ n e. given (wrote_of stored_size (turn_by back f) o a n e) (λ (g, p, t).
      count_of stored_size (turn_by back f) o a n e g p ∙ (undoes back f g (bytes_are f low) p).1);
  undone = λ n e. given (wrote_of stored_size (turn_by back f) o a n e) (λ (g, p, t). ap (turn_by (not back)) t ∙ (undoes back f g (bytes_are f low) p).0);
  plans = λ n e. given (wrote_of stored_size (turn_by back f) o a n e) (λ (g, p, t). subst (Renumbered (by_of back) f) (sym t)
      (renumbered_as back f g (bytes_are f low) p));
}

-- ---- an accepted roster behind a route, with the parts and counts as the code has them
module _ (back : Bool) (f : List ℕ) (is_b : T (is_bytes f)) (k : ℕ) (R : RouteAt f k) (r : Roster) (a : read_roster (drop (k + 1) f) ≡ accepted r)
    (route roster : List ℕ) (dr : route ≡ take k (drop 1 f)) (ds : roster ≡ take roster_size (drop (k + 1) f))
    (ns nt : ℕ) (d_s : ns ≡ get_or roster 0 0) (d_t : nt ≡ get_or roster (ns + 1) 0) where
  from : f ≡ list_bytes route ++ drop (k + 1) f
  from = (route_back f (take k (drop 1 f)) (drop (k + 1) f) R.read).0 ∙ ap (λ z. list_bytes z ++ drop (k + 1) f) (sym dr)

  is_bytes_law : T (is_bytes (drop (k + 1) f))
  is_bytes_law = rest_bytes (list_bytes route) (drop (k + 1) f) from is_b

  pub route_few : length route ≤ node_limit
  route_few = subst (λ z. length z ≤ node_limit) (sym dr) (route_back f (take k (drop 1 f)) (drop (k + 1) f) R.read).1

  route_count : length route ≡ k
  route_count = ap length dr ∙ omega (arith, length-take k (drop 1 f), length-drop 1 f, R.long)

  ok : T (fits r)
  ok = read_fits (drop (k + 1) f) r is_bytes_law a

  written_is : write_roster r ≡ roster
  written_is = read_write (drop (k + 1) f) r is_bytes_law a
      ∙ sym (ds ∙ take_all roster_size (drop (k + 1) f) (accepted_size (drop (k + 1) f) r is_bytes_law a))

  is_s : ns ≡ surveyor_count r
  is_s = surveyors_are roster r written_is ns d_s

  is_t : nt ≡ stand_count r
  is_t = stands_are roster r written_is ns d_s nt d_t

  pub counts_few : (ns ≤ node_limit) × (nt ≤ node_limit)
  counts_few = counts_small roster r written_is ns d_s ok nt d_t

  turn_at : turn_by back f ≡ roster_behind (by_of back) route (accepted r)
  turn_at = turn_is back f ∙ ap (route_first (by_of back)) (R.read ∙ ap (λ z. accepted (z, drop (k + 1) f)) (sym dr)) ∙ ap (roster_behind (by_of back) route) a

  -- "a route that is not each stand exactly once (23"
  pub route_turned : (o : List ℕ) → (Names route nt → ⊥) → Settles (turn_by back f) o (Err NoRoute) o
  route_turned o h = settles_refused (turn_by back f) o NoRoute
      (turn_at ∙ ap (λ b. cond b (accepted (list_bytes route ++ write_roster (renumbered (by_of back route) r))) (refused 23)) not_each)
    where
      not_each : names_each route r ≡ false
      not_each = T_false (not_T (names_each route r) (λ t. h (subst (Names route) (sym is_t) (each_names route r t))))

  module _ (numbers places : List ℕ) (M : Numbered route nt numbers) (P : Places route places) where
    pub orders : Ordered nt places × Ordered nt numbers
    orders = (
      way_ordered route nt places numbers M.names counts_few.1 (way_there route nt numbers places M P),
      way_ordered (way_back route) nt numbers places (back_names route nt M.names) counts_few.1 (way_back_law route nt numbers places M P),
    )

    abbrev H : Roster
    H = renumbered (by_of back route) r

    module _ (c : RosterBytes) (h : Holds (reordered_bytes roster ns nt (cond back numbers places) (cond back places numbers)) c) where
      gives : (c.len ≤ roster_size) × (take c.len c.roster ≡ write_roster H)
      gives = go back h
        where
          go : (b : Bool) → Holds (reordered_bytes roster ns nt (cond b numbers places) (cond b places numbers)) c
              → (c.len ≤ roster_size) × (take c.len c.roster ≡ write_roster (renumbered (by_of b route) r))
          go true h = reordered_gives (way_back route) roster r written_is ok (subst (Names (way_back route)) is_t (back_names route nt M.names))
              numbers places (subst (λ n. Way (way_back route) n numbers places) is_t (way_back_law route nt numbers places M P)) c
              (subst (λ b. Holds b c) (ap₂ (λ x z. reordered_bytes roster x z numbers places) is_s is_t) h)
          go false h = reordered_gives route roster r written_is ok (subst (Names route) is_t M.names)
              places numbers (subst (λ n. Way route n places numbers) is_t (way_there route nt numbers places M P)) c
              (subst (λ b. Holds b c) (ap₂ (λ x z. reordered_bytes roster x z places numbers) is_s is_t) h)

      -- there is room for the route and the roster
      pub room : (o : List ℕ) → stored_size ≤ length o → length (take (k + 1) f) + length (written c) ≤ length o
      room o l = omega (arith, length-take (k + 1) f, written_few c, R.few)

      pub route_stored : (o : List ℕ) (n : ℕ) (o' : List ℕ) → WrittenBoth f (k + 1) (written c) o n o' → Settles (turn_by back f) o (Ok n) o'
      route_stored o n o' W = settles_wrote (turn_by back f) o (list_bytes route ++ write_roster H) (both f (k + 1) (written c)) n o'
          (turn_at ∙ ap (λ b. cond b (accepted (list_bytes route ++ write_roster H)) (refused 23))
          (T_true {b = names_each route r} (names_each_law route r (subst (Names route) is_t M.names))))
          (ap₂ ◌++◌ head_is gives.1) W.count W.bytes
        where
          head_is : take (k + 1) f ≡ list_bytes route
          head_is = ap (take (k + 1)) from ∙ take_at (list_bytes route) (drop (k + 1) f) (k + 1) (omega (arith, route_count))

-- ---- by what was read before the roster
pub head_turned : (back : Bool) (f o : List ℕ) (n : Refusal) → read_route f ≡ refused (number_of n) → Settles (turn_by back f) o (Err n) o
head_turned back f o n e = settles_refused (turn_by back f) o n (turn_is back f ∙ ap (route_first (by_of back)) e)

pub roster_turned : (back : Bool) (f o : List ℕ) (k : ℕ) → RouteAt f k → (n : Refusal) {s : Result ⊤ Refusal} → s ≡ Err n
    → reading_of s ≡ file_read (read_roster (drop (k + 1) f)) → Settles (turn_by back f) o (Err n) o
roster_turned back f o k R n q e = settles_file (turn_by back f) o (read_roster (drop (k + 1) f)) n q e
    (λ e. turn_is back f ∙ ap (route_first (by_of back)) R.read ∙ ap (roster_behind (by_of back) (take k (drop 1 f))) e)

-- all that is behind the route
pub rest_whole : (f : List ℕ) (k : ℕ) (xs : List ℕ) → xs ≡ take (length f) (drop (k + 1) f) → xs ≡ drop (k + 1) f
rest_whole f k xs e = e ∙ take_all (length f) (drop (k + 1) f) (omega (arith, length-drop (k + 1) f))
