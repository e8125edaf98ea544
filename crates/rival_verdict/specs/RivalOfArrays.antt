-- What the arrays show of a plan: its verdict and its rival are those of the search (theory_verdict, Rival), for every instance that the arrays show.
-- And what a caller has of it who knows the plan as the model's: both are asked of the set of edges alone.
use Prim.Native.Nat.{ℕ, ◌+◌, ◌*◌, ◌≤◌, ◌<◌}
use Rattle.std.proofs.Common.{arith, sym, ◌∙◌}
use Rattle.std.specs.Prelude.{◌≡◌, refl, false, not, cond, ◌&&◌, ◌||◌, List, [], ◌∷◌, length, ltb, Option, Some}
use Rattle.std.proofs.Math.Path.{ap, ap₂, fun_ext}
use Rattle.std.proofs.Math.Bool.{Bool}
use Rattle.std.proofs.Math.Option.{Option as Opt, or_else, Option-elim}
use Rattle.std.proofs.lemmas.List.{length-map}
use Rattle.lists.specs.Sum.{◌∈◌, range, range_length}
use Rattle.lists.specs.Search.{low, low_cong}
use Rattle.model.specs.Limits.{plan_limit}
use Rattle.model.specs.Instance.{Instance}
use Rattle.model.specs.Plans.{Plan, on, plans_of, Verdict, beaten, verdict_of}
use Rattle.model.specs.PlanFile.{edges_in, plan_of}
use Rattle.theory_instance.specs.Lawful.{Lawful}
use Rattle.theory_files.specs.Chosen.{plan_of_cong}
use Rattle.theory_verdict.specs.Search.{Hit, rival_by, search, judge, verdict_by, rival_edges}
use Rattle.theory_verdict.specs.Rival.{lid, size_of, computed_verdict, rival_of}
use Rattle.theory_verdict.proofs.Rival.{computed_verdict_law}
use Rattle.arrays.specs.ArrayInstance.{at, flag, shown}
use Rattle.arrays.specs.Passes.{Shows, Low}
use Rattle.arrays.specs.Filled.{Made}
use Rattle.rival_tables.specs.Filled.{Grid, Rows, cell, table_of, table_rows}
use Rattle.rival_levels.specs.declared.Found.TheVariants as found
use Rattle.rival_levels.specs.declared.Found.{Found}
use Rattle.rival_levels.specs.Levels.{diag_at}
use Rattle.rival_levels.specs.Walks.{hit_of, search_at}
use Rattle.rival_search.specs.SearchView.{Lists, Views, Roomy, free_at, arc_cell, terminal_cell, alone_price, alone_at, alone_cell, search_shown, arc_shown}
use Rattle.rival_search.specs.SearchView.{terminal_shown, room_s_law, room_t_law}
use Rattle.rival_search.specs.TwoThresholds.{searched, found_in, Searched, OnTables, tables_searched, out_alone, search_direct, search_places, searched_hit}
use Rattle.rival_search.specs.TwoThresholds.{searching_bounded}
use Rattle.rival_search.specs.declared.Hunt.TheVariants as hunt
use Rattle.rival_search.specs.declared.Hunt.{Hunt}
use Rattle.rival_verdict.specs.declared.Standing.{Standing}
use Rattle.rival_verdict.specs.Judged.{standing_of, verdict_for, verdict_hits}
use Rattle.rival_exchange.specs.Swaps.{Marks, gone_by, come_by, rival_at, rival_at_law, shows_plan}

-- the verdict and the rival are those that the theory computes of the plan, on any instance that the arrays show
pub record RivalShown (m : ℕ) (sv st rs rt quota_s quota_t : List ℕ) (plan : List Bool) (v : Verdict) (rival : List Bool) : Type 0 where
  pub verdict : (ns nt : ℕ) (sh : List ℕ) (tied : List Bool) → v ≡ computed_verdict (shown m ns nt sv st rs rt sh tied quota_s quota_t) plan
  pub flags : (ns nt : ℕ) (sh : List ℕ) (tied : List Bool) (e : ℕ) → flag rival e ≡ on (rival_of (shown m ns nt sv st rs rt sh tied quota_s quota_t) plan) e

-- the same for all quotas that leave this room at the nodes
abbrev pub ShownFor : (m : ℕ) (sv st rs rt : List ℕ) (plan : List Bool) (n : ℕ) (ps pt : List ℕ) (room_s room_t : List Bool) → Verdict → List Bool → Type 0
ShownFor m sv st rs rt plan n ps pt room_s room_t v rival =
    (quota_s quota_t : List ℕ) → Roomy n ps quota_s room_s → Roomy n pt quota_t room_t → RivalShown m sv st rs rt quota_s quota_t plan v rival

-- the nodes of the plan's edges, by their places
abbrev pub NodesAt : (n : ℕ) (es sv st ps pt : List ℕ) → Type 0
NodesAt n es sv st ps pt = Made 0 ps (λ i. at sv (at es i)) n × Made 0 pt (λ i. at st (at es i)) n

-- the plan without the edges that go by what was found, and with those that come
abbrev pub Exchanged : (m : ℕ) (sv st rs rt : List ℕ) (plan room_s room_t : List Bool) (n : ℕ) (es arcs : List ℕ) → Option Found → List Bool → Type 0
Exchanged m sv st rs rt plan room_s room_t n es arcs what rival =
    (gone : List Bool) × (come : List Bool) × Marks gone (gone_by m sv st rs rt plan room_s room_t es arcs n what)
    × Marks come (come_by m sv st rs rt plan room_s room_t es arcs n what)
    × Shows false rival m (λ e. (flag plan e && not (flag gone e)) || flag come e)

-- what both searches find on the tables, and the plan exchanged by it
abbrev pub RivalOn : (m : ℕ) (sv st rs rt : List ℕ) (plan room_s room_t : List Bool) (n : ℕ) (es arcs ends : List ℕ) → Standing → List Bool → Type 0
RivalOn m sv st rs rt plan room_s room_t n es arcs ends standing rival =
    (hunt : Hunt) × OnTables arcs ends n hunt × (standing ≡ standing_of hunt) × Exchanged m sv st rs rt plan room_s room_t n es arcs (found_in hunt) rival

-- ---- plans with the same edges
module _ (G : Instance) (M N : Plan) (same : (e : ℕ) → on M e ≡ on N e) where
  pub verdict_on : computed_verdict G M ≡ computed_verdict G N
  unfolding computed_verdict
  verdict_on = ap (λ (p : ℕ → Bool). verdict_by G p lid (length (edges_in G.m p))) (fun_ext same)

  pub rival_on_law : rival_of G M ≡ rival_of G N
  unfolding rival_of
  rival_on_law = ap (λ (p : ℕ → Bool). plan_of G.m (rival_edges G p lid (length (edges_in G.m p)))) (fun_ext same)

-- ---- for a plan of the model that the array shows
module _ (m ns nt : ℕ) (sv st rs rt sh : List ℕ) (tied : List Bool) (quota_s quota_t : List ℕ) (plan : List Bool) (v : Verdict) (rival : List Bool)
    (R : RivalShown m sv st rs rt quota_s quota_t plan v rival) (G : Instance) (is : shown m ns nt sv st rs rt sh tied quota_s quota_t ≡ G)
    (M : Plan) (same : (e : ℕ) → flag plan e ≡ on M e) where
  -- the verdict is the model's
  pub shown_verdict : Lawful G → M ∈ plans_of G → size_of G M ≤ plan_limit → v ≡ verdict_of G M
  shown_verdict law ok few = R.verdict ns nt sh tied ∙ ap (λ G. computed_verdict G plan) is ∙ verdict_on G plan M same ∙ computed_verdict_law G M law ok few

  -- the rival is the model's
  pub shown_rival : (e : ℕ) → flag rival e ≡ on (rival_of G M) e
  shown_rival e = R.flags ns nt sh tied e ∙ ap (λ G. on (rival_of G plan) e) is ∙ ap (λ N. on N e) (rival_on_law G plan M same)

-- ---- what the code finds shows the verdict and the rival
module _ (m : ℕ) (sv st rs rt quota_s quota_t : List ℕ) (plan : List Bool) (n : ℕ) (es ps pt rps rpt : List ℕ) (room_s room_t : List Bool) (arcs : List ℕ)
    (hunt : Hunt)
    (fits : n ≤ 64) (lowS : Low m sv 32) (lowT : Low m st 32) (lists : Lists m plan n es) (views : Views n es sv st rs rt ps pt rps rpt)
    (roomyS : Roomy n ps quota_s room_s) (roomyT : Roomy n pt quota_t room_t)
    (table : Rows arcs n (arc_cell m sv st rs rt plan ps pt rps rpt)) (searching : Searched m sv st rs rt plan n ps pt rps rpt room_s room_t arcs hunt) where
  terminals : List ℕ
  terminals = searching.0

  -- what each search finds by places
  finds : ℕ → Option Found
  finds k = search_at m (free_at sv st plan room_s room_t) arcs terminals n k

  shows_arcs : Grid arcs n (arc_cell m sv st rs rt plan ps pt rps rpt)
  shows_arcs i j il jl = table i j il (omega arith)

  module _ (ns nt : ℕ) (sh : List ℕ) (tied : List Bool) where
    abbrev H : Instance
    H = shown m ns nt sv st rs rt sh tied quota_s quota_t

    hit : (k : ℕ) → k ≤ 1 → hit_of H (flag plan) es (finds k) ≡ search H (flag plan) 133 k n
    unfolding finds terminals
    hit k h =
        search_shown m ns nt sv st rs rt sh tied quota_s quota_t plan n es ps pt rps rpt room_s room_t lowS lowT lists views roomyS roomyT arcs terminals k
        shows_arcs searching.1 (omega arith)

    size : length (edges_in m (flag plan)) ≡ n
    size = ap length lists ∙ length-map (range 0 n) (at es) ∙ range_length 0 n

    found_verdict : verdict_for (standing_of hunt) ≡ computed_verdict H plan
    unfolding computed_verdict verdict_by finds terminals
    found_verdict =
        ap (λ (h : Hunt). verdict_for (standing_of h)) searching.2
        ∙ verdict_hits H (flag plan) es (finds 0) (finds 1)
        ∙ ap₂ judge (hit 0 (omega arith)) (hit 1 (omega arith))
        ∙ ap (λ k. judge (search H (flag plan) 133 0 k) (search H (flag plan) 133 1 k)) (sym size)

    found_hit : hit_of H (flag plan) es (found_in hunt) ≡ or_else (search H (flag plan) 133 0 n) (search H (flag plan) 133 1 n)
    unfolding finds terminals
    found_hit =
        ap (λ (h : Hunt). hit_of H (flag plan) es (found_in h)) searching.2
        ∙ searched_hit H (flag plan) es (finds 0) (finds 1)
        ∙ ap₂ or_else (hit 0 (omega arith)) (hit 1 (omega arith))

    found_rival : (rival : List Bool) → Shows false rival m (rival_at m sv st rs rt plan room_s room_t es arcs n (found_in hunt)) → (e : ℕ)
        → flag rival e ≡ on (rival_of H plan) e
    unfolding rival_of rival_edges terminals
    found_rival rival s e =
        shows_plan m rival (rival_at m sv st rs rt plan room_s room_t es arcs n (found_in hunt)) s e
        ∙ ap (λ N. on N e)
        (plan_of_cong m (rival_at m sv st rs rt plan room_s room_t es arcs n (found_in hunt))
        (Option-elim (hit_of H (flag plan) es (found_in hunt)) (flag plan) (rival_by (flag plan))) (λ d h.
        rival_at_law m sv st rs rt plan room_s room_t es arcs n ns nt sh tied quota_s quota_t lists terminals
        (λ i j il jl. shows_arcs i j il jl
        ∙ arc_shown m ns nt sv st rs rt sh tied quota_s quota_t plan n es ps pt rps rpt room_s room_t lowS lowT lists views roomyS roomyT i j il jl)
        (λ i j il jl. searching.1 i j il jl
        ∙ terminal_shown m ns nt sv st rs rt sh tied quota_s quota_t plan n es ps pt rps rpt room_s room_t lowS lowT lists views roomyS roomyT i j il jl)
        (room_s_law m ns nt sv st rs rt sh tied quota_s quota_t plan n es ps pt rps rpt room_s room_t lowS lowT lists views roomyS roomyT)
        (room_t_law m ns nt sv st rs rt sh tied quota_s quota_t plan n es ps pt rps rpt room_s room_t lowS lowT lists views roomyS roomyT)
        (found_in hunt) (searching_bounded m sv st rs rt plan n ps pt rps rpt room_s room_t arcs hunt searching) d))
        ∙ ap (λ (o : Opt Hit). on (plan_of m (Option-elim o (flag plan) (rival_by (flag plan)))) e) found_hit
        ∙ ap
        (λ k. on (plan_of m (Option-elim (or_else (search H (flag plan) 133 0 k) (search H (flag plan) 133 1 k)) (flag plan) (rival_by (flag plan)))) e)
        (sym size)

  pub found_shown_law : (v : Verdict) (gone come rival : List Bool) → v ≡ verdict_for (standing_of hunt)
      → Marks gone (gone_by m sv st rs rt plan room_s room_t es arcs n (found_in hunt)) → Marks come (come_by m sv st rs rt plan room_s room_t es arcs n (found_in hunt))
      → Shows false rival m (λ e. (flag plan e && not (flag gone e)) || flag come e) → RivalShown m sv st rs rt quota_s quota_t plan v rival
  found_shown_law v gone come rival e g c s = record {
    verdict = λ ns nt sh tied. e ∙ found_verdict ns nt sh tied;
    flags = λ ns nt sh tied. found_rival ns nt sh tied rival (λ d. s d ∙ ap₂ (λ (x y : Bool). cond (ltb d m) ((flag plan d && not x) || y) false) (g d) (c d));
  }

-- ---- arrays that hold the ranks of the plan's edges: there are such, whether the code makes them or not
pub ranked : (rank es : List ℕ) → List ℕ
ranked rank es = table_of (λ i j. at rank (at es j)) 64

ranked_at : (rank es : List ℕ) (n : ℕ) → n ≤ 64 → Made 0 (ranked rank es) (λ i. at rank (at es i)) n
unfolding ranked
ranked_at rank es n fits i h =
    let e : i ≡ 0 * 64 + i = omega arith in
    ap (at (ranked rank es)) e ∙ table_rows (λ i j. at rank (at es j)) 1 0 i (omega arith) (omega arith)

viewed : (n : ℕ) (es sv st rs rt ps pt : List ℕ) → n ≤ 64 → NodesAt n es sv st ps pt → Views n es sv st rs rt ps pt (ranked rs es) (ranked rt es)
viewed n es sv st rs rt ps pt fits (s, t) = record { sv_at = s; st_at = t; rs_at = ranked_at rs es n fits; rt_at = ranked_at rt es n fits }

-- ---- an edge with room at both ends beats the plan; the tables need not be there, only that there are such
module _ (m : ℕ) (sv st rs rt quota_s quota_t : List ℕ) (plan : List Bool) (n : ℕ) (es ps pt : List ℕ) (room_s room_t : List Bool)
    (fits : n ≤ 64) (lowS : Low m sv 32) (lowT : Low m st 32) (lists : Lists m plan n es) (nodes : NodesAt n es sv st ps pt)
    (roomyS : Roomy n ps quota_s room_s) (roomyT : Roomy n pt quota_t room_t) where
  pub direct_shown : (f : ℕ) (gone come rival : List Bool) → f ≡ low (free_at sv st plan room_s room_t) m → f < m → Marks gone [] → Marks come (f ∷ [])
      → Shows false rival m (λ e. (flag plan e && not (flag gone e)) || flag come e) → RivalShown m sv st rs rt quota_s quota_t plan beaten rival
  direct_shown f gone come rival e h = found_shown_law m sv st rs rt quota_s quota_t plan n es ps pt (ranked rs es) (ranked rt es) room_s room_t arcs
      (hunt.Win (found.Direct f)) fits lowS lowT
      lists (viewed n es sv st rs rt ps pt fits nodes) roomyS roomyT (table_rows (arc_cell m sv st rs rt plan ps pt (ranked rs es) (ranked rt es)) n) (
        terminals,
        (λ i j il jl. table_rows (terminal_cell m sv st rs rt plan room_s room_t ps pt (ranked rs es) (ranked rt es)) n i j il (omega arith)),
        sym
            (ap (λ (a : Option Found). searched a (search_at m free arcs terminals n 1)) (search_direct m free arcs terminals n f e 0 h)),
      ) beaten gone come rival refl
    where
      free : ℕ → Bool
      free = free_at sv st plan room_s room_t

      arcs : List ℕ
      arcs = table_of (arc_cell m sv st rs rt plan ps pt (ranked rs es) (ranked rt es)) (n * 64)

      terminals : List ℕ
      terminals = table_of (terminal_cell m sv st rs rt plan room_s room_t ps pt (ranked rs es) (ranked rt es)) (n * 64)

-- ---- so does an edge of the plan that is better exchanged alone, where none has room at both ends; again the tables need not be there
module _ (m : ℕ) (sv st rs rt quota_s quota_t : List ℕ) (plan : List Bool) (n : ℕ) (es ps pt : List ℕ) (room_s room_t : List Bool)
    (fits : n ≤ 64) (lowS : Low m sv 32) (lowT : Low m st 32) (lists : Lists m plan n es) (nodes : NodesAt n es sv st ps pt)
    (roomyS : Roomy n ps quota_s room_s) (roomyT : Roomy n pt quota_t room_t) (shut : m ≤ low (free_at sv st plan room_s room_t) m) where
  abbrev arcs₀ : List ℕ
  arcs₀ = table_of (arc_cell m sv st rs rt plan ps pt (ranked rs es) (ranked rt es)) (n * 64)

  abbrev ends₀ : List ℕ
  ends₀ = table_of (terminal_cell m sv st rs rt plan room_s room_t ps pt (ranked rs es) (ranked rt es)) (n * 64)

  shows₀ : Grid ends₀ n (terminal_cell m sv st rs rt plan room_s room_t ps pt (ranked rs es) (ranked rt es))
  shows₀ i j il jl = table_rows (terminal_cell m sv st rs rt plan room_s room_t ps pt (ranked rs es) (ranked rt es)) n i j il (omega arith)

  -- the first such edge is the first place on the diagonal
  on_diagonal : alone_at m sv st rs rt plan room_s room_t es n ≡ diag_at (cell ends₀) n 4
  on_diagonal = low_cong (λ i. ltb (alone_price m sv st rs rt plan room_s room_t (at es i)) 4) (λ i. ltb (cell ends₀ i i) 4) n (λ i h. ap (λ z. ltb z 4)
      (sym (shows₀ i i h h
      ∙ alone_cell m sv st rs rt plan room_s room_t es ps pt (ranked rs es) (ranked rt es) i (nodes.0 i h) (nodes.1 i h) (ranked_at rs es n fits i h)
      (ranked_at rt es n fits i h))))

  pub alone_shown : (i : ℕ) (gone come rival : List Bool) → i ≡ alone_at m sv st rs rt plan room_s room_t es n → i < n
      → Marks gone (gone_by m sv st rs rt plan room_s room_t es arcs₀ n (Some (found.Alone i)))
      → Marks come (come_by m sv st rs rt plan room_s room_t es arcs₀ n (Some (found.Alone i)))
      → Shows false rival m (λ e. (flag plan e && not (flag gone e)) || flag come e) → RivalShown m sv st rs rt quota_s quota_t plan beaten rival
  alone_shown i gone come rival e h = found_shown_law m sv st rs rt quota_s quota_t plan n es ps pt (ranked rs es) (ranked rt es) room_s room_t arcs₀
      (hunt.Win (found.Alone i)) fits lowS lowT lists (viewed n es sv st rs rt ps pt fits nodes) roomyS roomyT
      (table_rows (arc_cell m sv st rs rt plan ps pt (ranked rs es) (ranked rt es)) n) (
        ends₀,
        shows₀,
        ap (λ (a : Option Found). searched a (search_at m free arcs₀ ends₀ n 1))
            (out_alone arcs₀ ends₀ n 0 i (e ∙ on_diagonal) h ∙ sym (search_places m free arcs₀ ends₀ n (low free m) refl 0 shut)),
      ) beaten gone come rival refl
    where
      free : ℕ → Bool
      free = free_at sv st plan room_s room_t

-- ---- or what both searches find on the two tables, where no edge has room at both ends
module _ (m : ℕ) (sv st rs rt quota_s quota_t : List ℕ) (plan : List Bool) (n : ℕ) (es ps pt rps rpt : List ℕ) (room_s room_t : List Bool)
    (fits : n ≤ 64) (lowS : Low m sv 32) (lowT : Low m st 32) (lists : Lists m plan n es) (views : Views n es sv st rs rt ps pt rps rpt)
    (roomyS : Roomy n ps quota_s room_s) (roomyT : Roomy n pt quota_t room_t) (shut : m ≤ low (free_at sv st plan room_s room_t) m)
    (arcs ends : List ℕ) (arcsShow : Rows arcs n (arc_cell m sv st rs rt plan ps pt rps rpt))
    (endsShow : Grid ends n (terminal_cell m sv st rs rt plan room_s room_t ps pt rps rpt)) where
  pub tables_shown : (standing : Standing) (rival : List Bool) → RivalOn m sv st rs rt plan room_s room_t n es arcs ends standing rival
      → RivalShown m sv st rs rt quota_s quota_t plan (verdict_for standing) rival
  tables_shown standing rival (hunt, on, stands, (gone, come, g, c, s)) =
      found_shown_law m sv st rs rt quota_s quota_t plan n es ps pt rps rpt room_s room_t arcs hunt fits lowS lowT lists views roomyS roomyT arcsShow
      (tables_searched m sv st rs rt plan n ps pt rps rpt room_s room_t arcs ends arcsShow endsShow shut hunt on)
      (verdict_for standing) gone come rival (ap verdict_for stands) g c s
