-- Plan files in a layout: accepted bytes are a plan within the quotas and are written back the same; a plan within the quotas, whose pairs
-- the layout can hold, is read back the same; a plan has at most 193 bytes with shifts and 129 without. Over an instance whose pairs
-- differ in an end or in the shift and whose quotas sum to at most 64 a side.
use Prim.Native.Nat.{ℕ, suc, ◌+◌, ◌*◌, ◌≤◌, ◌<◌, zero-le}
use native.Mathlib.Omega.{arith}
use Rattle.std.proofs.Math.Nat.{suc_inj, mul-le-mul_left}
use Rattle.std.proofs.Math.Decide.{dec_lt}
use Rattle.std.specs.Prelude.{◌≡◌, refl, true, not, ◌&&◌, ◌||◌, leb, ltb}
use Rattle.std.proofs.Math.Path.{sym, ap, ap₂}
use Rattle.std.proofs.Common.{◌∙◌, subst, length-append, eqb→eq, nltb→le, leb→le, T_not}
use Rattle.std.proofs.Math.Logic.{by_cases}
use mathlib.Core.List.{List, [], ◌∷◌, ◌++◌, map, append-nil, append_assoc}
use Rattle.std.proofs.Math.ListN.{length}
use Rattle.std.proofs.lemmas.List.{length-map}
use Rattle.std.proofs.Math.Dec.{T, eqb, eqb_refl, nleb→lt, le→leb}
use Rattle.std.proofs.Math.Arith.{le→nltb, lt→nleb}
use Rattle.lists.specs.Test.{given, and_l, and_r, and_i, nor_l, nor_r, nor_i, by-eq, bit, bit_pk, pk, T_true}
use Rattle.lists.specs.Sum.{◌∈◌, sum, sum_append, sum_mono, sum_swap, sum_one, sum_cong, up_to}
use Rattle.lists.specs.Keep.{all?, gather, All}
use Rattle.lists.specs.Search.{low_is}
use Rattle.model.specs.Limits.{plan_limit, pair_width, plan_size}
use Rattle.model.specs.Reading.{◌then◌, accepted, whole}
use Rattle.model.specs.RosterFile.{read_count}
use Rattle.model.specs.Roster.{elem}
use Rattle.model.specs.Instance.{Instance, Side, surveyors, stands}
use Rattle.model.specs.Plans.{Plan, on, within_side, within, plans_of}
use Rattle.model.specs.PlanFile.{Named, name_of, same_name, PairLayout, shifted_pair, edges_in, pair_list_by, plan_bytes_by, pair_list}
use Rattle.model.specs.PlanFile.{plan_bytes, edge_of_pair, full, Pairs, pair_check, with_pair, read_pairs_by, plan_of_pairs, read_plan_by, read_plan}
use Rattle.theory_instance.specs.Lawful.{Lawful, Matching}
use Rattle.theory_instance.specs.Within.{within_side_law, within_matching, matching_within}
use Rattle.theory_files.specs.Reads.{is_bytes, Reads, Passes, each, read_value, read_rest, then_read, whole_accepted}
use Rattle.theory_files.specs.Entries.{cond_zero, zero_cond}
use Rattle.theory_files.specs.Layouts.{PairAgrees, in_shifted_pair}
use Rattle.theory_files.specs.Sections.{alike, counted}
use Rattle.theory_files.specs.Chosen.{on_plan_of, plan_of_length, plan_of_on, plan_of_cong, edges_in_cong, plan_length, plan_within}
use Rattle.theory_files.specs.Chosen.{within_plan, From, Below, keep_from, keep_below, edges_of_elem, elem_edges_in, at_node, deg_at_node}

-- what the laws ask of an instance
pub record Fileable (G : Instance) : Type 0 where
  pub inside_s : (e : ℕ) → e < G.m → G.sv e < G.ns
  pub inside_t : (e : ℕ) → e < G.m → G.st e < G.nt
  pub differ : (d e : ℕ) → d < G.m → e < G.m → G.sv d ≡ G.sv e → G.st d ≡ G.st e → G.sh d ≡ G.sh e → d ≡ e
  pub few : sum G.quota_s (up_to G.ns) ≤ plan_limit

-- names that the test calls the same agree in surveyor, stand and shift
pub name_parts : (p q : Named) → T (same_name p q) → (p.surveyor ≡ q.surveyor) × (p.stand ≡ q.stand) × (p.shift ≡ q.shift)
name_parts p q t =
    let a = eqb p.surveyor q.surveyor in
    let b = eqb p.stand q.stand in
    let c = eqb p.shift q.shift in
    given (and_r a (b && c) t) (λ u. (
      eqb→eq p.surveyor q.surveyor (and_l a (b && c) t),
      eqb→eq p.stand q.stand (and_l b c u),
      eqb→eq p.shift q.shift (and_r b c u),
    ))

-- names that agree in surveyor, stand and shift are one
pub same_name_law : (p q : Named) → (p.surveyor ≡ q.surveyor) × (p.stand ≡ q.stand) × (p.shift ≡ q.shift) → p ≡ q
same_name_law p q (a, b, c) = λ i. record { surveyor = a i; stand = b i; shift = c i }

module _ (G : Instance) where
  -- the edge that is found has the pair's numbers
  pub found_parts : (p : Named) → edge_of_pair G p < G.m
      → (suc (G.sv (edge_of_pair G p)) ≡ p.surveyor) × (suc (G.st (edge_of_pair G p)) ≡ p.stand) × (G.sh (edge_of_pair G p) ≡ p.shift)
  unfolding edge_of_pair
  found_parts p h = name_parts (name_of G (edge_of_pair G p)) p ((low_is (λ e. same_name (name_of G e) p) G.m).2 h)

  pub found_is : (p : Named) → edge_of_pair G p < G.m → name_of G (edge_of_pair G p) ≡ p
  found_is p h = same_name_law (name_of G (edge_of_pair G p)) p (found_parts p h)

  -- an edge is found again by its name
  pub found : Fileable G → (e : ℕ) → e < G.m → edge_of_pair G (name_of G e) ≡ e
  unfolding edge_of_pair
  found F e h =
      let l = low_is (λ d. same_name (name_of G d) (name_of G e)) G.m in
      let d = edge_of_pair G (name_of G e) in
      let t : T (same_name (name_of G e) (name_of G e)) = and_i (eqb (suc (G.sv e)) (suc (G.sv e)))
      (eqb (suc (G.st e)) (suc (G.st e)) && eqb (G.sh e) (G.sh e)) (eqb_refl (suc (G.sv e)))
      (and_i (eqb (suc (G.st e)) (suc (G.st e))) (eqb (G.sh e) (G.sh e)) (eqb_refl (suc (G.st e))) (eqb_refl (G.sh e))) in
      by_cases (dec_lt d G.m)
      (λ k. given (found_parts (name_of G e) k) (λ (s, u, v). F.differ d e k h (pred s) (pred u) v))
      (λ n. absurd (T_not (same_name (name_of G e) (name_of G e)) (l.1 e (omega arith)) t))
    where
      pred : {a b : ℕ} → suc a ≡ suc b → a ≡ b
      pred q = suc_inj q

  abbrev PairsPass : Pairs → List (Named) → Type 0
  PairsPass s ps = Passes (pair_check G) (with_pair G) s ps

  abbrev edges : List (Named) → List ℕ
  edges ps = map (edge_of_pair G) ps

  -- ---- what the check of a pair says, and what it asks
  passed : (s : Pairs) (p : Named) → pair_check G s p ≡ 0 → (edge_of_pair G p < G.m) × (s.from ≤ edge_of_pair G p)
      × T (not (full (surveyors G) s.seen (edge_of_pair G p))) × T (not (full (stands G) s.seen (edge_of_pair G p)))
  passed s p e =
      let d = edge_of_pair G p in
      let a = full (surveyors G) s.seen d in
      let b = full (stands G) s.seen d in
      given (cond_zero (leb G.m d) 9 e) (λ (t, e₁). given (cond_zero (ltb d s.from) 10 e₁) (λ (u, e₂). given (cond_zero (a || b) 11 e₂) (λ (v, z).
      (nleb→lt G.m d t, nltb→le d s.from u, nor_l a b v, nor_r a b v))))

  passes : (s : Pairs) (p : Named) → edge_of_pair G p < G.m → s.from ≤ edge_of_pair G p
      → T (not (full (surveyors G) s.seen (edge_of_pair G p))) → T (not (full (stands G) s.seen (edge_of_pair G p))) → pair_check G s p ≡ 0
  passes s p h k a b = zero_cond (leb G.m (edge_of_pair G p)) 9 (lt→nleb G.m (edge_of_pair G p) h)
      (zero_cond (ltb (edge_of_pair G p) s.from) 10 (le→nltb (edge_of_pair G p) s.from k)
      (zero_cond (full (surveyors G) s.seen (edge_of_pair G p) || full (stands G) s.seen (edge_of_pair G p)) 11
      (nor_i (full (surveyors G) s.seen (edge_of_pair G p)) (full (stands G) s.seen (edge_of_pair G p)) a b) refl))

  passes_from : (s : Pairs) (ps : List (Named)) → PairsPass s ps → From s.from (edges ps) × Below G.m (edges ps)
  passes_from s [] k = (tt, tt)
  passes_from s (p ∷ ps) k = given (passed s p k.0) (λ (h, l, a, b). given (passes_from (with_pair G s p) ps k.1) (λ (f, u). ((l, f), (h, u))))

  -- the pairs are those of the edges
  pairs_back : (L : PairLayout) (s : Pairs) (ps : List Named) → PairsPass s ps → pair_list_by L G (edges ps) ≡ gather L.bytes ps
  pairs_back L s [] k = refl
  pairs_back L s (p ∷ ps) k = given (passed s p k.0) (λ (h, l, a, b).
      ap₂ (λ q zs. L.bytes q ++ zs) (found_is p h) (pairs_back L (with_pair G s p) ps k.1))

  names_back : (s : Pairs) (ps : List Named) → PairsPass s ps → map (name_of G) (edges ps) ≡ ps
  names_back s [] k = refl
  names_back s (p ∷ ps) k = given (passed s p k.0) (λ (h, l, a, b). ap₂ (λ q zs. q ∷ zs) (found_is p h) (names_back (with_pair G s p) ps k.1))

  -- ---- quotas
  abbrev Fits : Side → List ℕ → Type 0
  Fits K es = (v : ℕ) → at_node K v es ≤ K.quota v

  one_more : (K : Side) (seen : List ℕ) (e : ℕ) → Fits K seen → T (not (full K seen e)) → Fits K (seen ++ e ∷ [])
  one_more K seen e f n v = by-eq (K.end e) v
      (λ q b. omega (
        arith,
        sum_append (λ d. bit (eqb (K.end d) v)) seen (e ∷ []),
        ap bit b,
        subst (λ u. at_node K u seen < K.quota u) q (nleb→lt (K.quota (K.end e)) (at_node K (K.end e) seen) n),
      ))
      (λ q b. omega (arith, sum_append (λ d. bit (eqb (K.end d) v)) seen (e ∷ []), ap bit b, f v))

  passes_fit : (s : Pairs) (ps : List (Named)) → Fits (surveyors G) s.seen → Fits (stands G) s.seen
      → PairsPass s ps → Fits (surveyors G) (s.seen ++ edges ps) × Fits (stands G) (s.seen ++ edges ps)
  passes_fit s [] f g k = (subst (Fits (surveyors G)) (sym (append-nil s.seen)) f, subst (Fits (stands G)) (sym (append-nil s.seen)) g)
  passes_fit s (p ∷ ps) f g k = given (passed s p k.0) (λ (h, l, a, b).
      given (passes_fit (with_pair G s p) ps (one_more (surveyors G) s.seen (edge_of_pair G p) f a)
      (one_more (stands G) s.seen (edge_of_pair G p) g b) k.1) (λ (x, y). (
        subst (Fits (surveyors G)) (append_assoc s.seen (edge_of_pair G p ∷ []) (edges ps)) x,
        subst (Fits (stands G)) (append_assoc s.seen (edge_of_pair G p ∷ []) (edges ps)) y,
      )))

  room_for : (K : Side) (seen : List ℕ) (e : ℕ) (es : List ℕ) → Fits K (seen ++ e ∷ es) → T (not (full K seen e))
  room_for K seen e es f = lt→nleb (K.quota (K.end e)) (at_node K (K.end e) seen)
      (omega (
        arith,
        f (K.end e),
        sum_append (λ d. bit (eqb (K.end d) (K.end e))) seen (e ∷ es),
        ap bit (T_true {b = eqb (K.end e) (K.end e)} (eqb_refl (K.end e))),
      ))

  abbrev start : Pairs
  start = record { seen = []; from = 0 }

  -- a plan's edges are the pairs' edges
  edges_are : (M : Plan) (ps : List Named) → PairsPass start ps → M ≡ plan_of_pairs G ps → edges_in G.m (on M) ≡ edges ps
  edges_are M ps k e = given (passes_from start ps k) (λ (f, b).
      ap (λ N. edges_in G.m (on N)) e
      ∙ edges_in_cong G.m (on (plan_of_pairs G ps)) (λ d. elem d (edges ps)) (λ d h. on_plan_of G.m (λ d. elem d (edges ps)) d h)
      ∙ edges_of_elem G.m (edges ps) f b)

  -- ---- a plan within the quotas, written and read
  written_passes : Fileable G → (s : Pairs) (es : List ℕ) → From s.from es → Below G.m es
      → Fits (surveyors G) (s.seen ++ es) → Fits (stands G) (s.seen ++ es) → PairsPass s (map (name_of G) es)
  written_passes F s [] f b x y = tt
  written_passes F s (e ∷ es) f b x y =
      let q = sym (found F e b.0) in (
        passes s (name_of G e) (subst (λ d. d < G.m) q b.0) (subst (λ d. s.from ≤ d) q f.0)
            (subst (λ d. T (not (full (surveyors G) s.seen d))) q (room_for (surveyors G) s.seen e es x))
            (subst (λ d. T (not (full (stands G) s.seen d))) q (room_for (stands G) s.seen e es y)),
        subst (λ d. PairsPass (record { seen = s.seen ++ d ∷ []; from = suc d }) (map (name_of G) es)) q
            (written_passes F (record { seen = s.seen ++ e ∷ []; from = suc e }) es f.1 b.1
            (subst (Fits (surveyors G)) (sym (append_assoc s.seen (e ∷ []) es)) x) (subst (Fits (stands G)) (sym (append_assoc s.seen (e ∷ []) es)) y)),
      )

  -- as many pairs as the surveyors have places at most
  at_most : (K : Side) → ((e : ℕ) → e < K.m → K.end e < K.n) → (es : List ℕ) → Below K.m es → Fits K es → length es ≤ sum K.quota (up_to K.n)
  at_most K inside es b f = omega (
    arith,
    each_once es b,
    sum_swap (λ v d. bit (eqb (K.end d) v)) (up_to K.n) es,
    sum_mono (λ v. at_node K v es) K.quota (up_to K.n) (λ v m. f v),
  )
    where
      once : (e : ℕ) → e < K.m → sum (λ v. bit (eqb (K.end e) v)) (up_to K.n) ≡ 1
      once e h = sum_cong (λ v. bit (eqb (K.end e) v)) (λ v. pk (eqb (K.end e) v) 1) (up_to K.n) (λ v m. bit_pk (eqb (K.end e) v))
          ∙ sum_one (λ v. 1) K.n (K.end e) (inside e h)

      each_once : (es : List ℕ) → Below K.m es → length es ≡ sum (λ d. sum (λ v. bit (eqb (K.end d) v)) (up_to K.n)) es
      each_once [] b = refl
      each_once (e ∷ es) b = omega (arith, once e b.0, each_once es b.1)

  fits : (K : Side) → ((e : ℕ) → e < K.m → K.end e < K.n) → (M : Plan) → T (within_side K (on M)) → Fits K (edges_in K.m (on M))
  fits K inside M t v = subst (λ n. n ≤ K.quota v) (deg_at_node K (on M) v) (within_side_law K (on M) inside t v)

  module _ (F : Fileable G) (M : Plan) (ok : M ∈ plans_of G) where
    abbrev es : List ℕ
    es = edges_in G.m (on M)

    below : Below G.m es
    below = keep_below (on M) 0 G.m G.m (omega arith)

    fits_s : Fits (surveyors G) es
    unfolding within
    fits_s = fits (surveyors G) F.inside_s M (and_l (within_side (surveyors G) (on M)) (within_side (stands G) (on M)) (plan_within G ok))

    fits_t : Fits (stands G) es
    unfolding within
    fits_t = fits (stands G) F.inside_t M (and_r (within_side (surveyors G) (on M)) (within_side (stands G) (on M)) (plan_within G ok))

    -- at most 64 pairs
    pub plan_few : length es ≤ plan_limit
    plan_few = omega (arith, at_most (surveyors G) F.inside_s es below fits_s, F.few)

    edges_back : (ds : List ℕ) → Below G.m ds → edges (map (name_of G) ds) ≡ ds
    edges_back [] b = refl
    edges_back (d ∷ ds) b = ap₂ (λ x xs. x ∷ xs) (found F d b.0) (edges_back ds b.1)

    written_pass : PairsPass start (map (name_of G) es)
    written_pass = written_passes F start es (keep_from (on M) 0 G.m) below fits_s fits_t

    plan_back : plan_of_pairs G (map (name_of G) es) ≡ M
    plan_back = plan_of_cong G.m (λ e. elem e (edges (map (name_of G) es))) (on M)
        (λ e h. ap (elem e) (edges_back es below) ∙ elem_edges_in G.m (on M) e h) ∙ plan_of_on G.m M (plan_length G ok)

  -- ---- a plan file is its pairs
  module _ (L : PairLayout) (A : PairAgrees L) where
    abbrev Listed : List Named → Type 0
    Listed ps = T (leb (length ps) plan_limit) × (All (λ p. T (A.holds p)) ps × PairsPass start ps)

    pairs : Reads (λ bs. read_count plan_limit bs then read_pairs_by L G) (λ ps. length ps ∷ gather L.bytes ps) Listed
    pairs = counted plan_limit (λ n. alike (λ ps (l, p, k). (l, (p, k))) (λ ps (l, (p, k)). (l, p, k)) (each A.reads (pair_check G) (with_pair G) n start))

    pub record FromPairs (bs : List ℕ) (M : Plan) : Type 0 where
      pub ps : List Named
      pub file : bs ≡ length ps ∷ gather L.bytes ps
      pub small : T (leb (length ps) plan_limit)
      pub held : All (λ p. T (A.holds p)) ps
      pub passing : PairsPass start ps
      pub plan : M ≡ plan_of_pairs G ps

    plan_pairs_law : (bs : List ℕ) (M : Plan) → T (is_bytes bs) → read_plan_by L G bs ≡ accepted M → FromPairs bs M
    unfolding read_plan_by
    plan_pairs_law bs M t e =
        given (whole_accepted (read_count plan_limit bs then read_pairs_by L G then (λ ps rest. accepted (plan_of_pairs G ps, rest))) e) (λ w.
        given (then_read (read_count plan_limit bs then read_pairs_by L G) (λ ps rest. accepted (plan_of_pairs G ps, rest)) w) (λ (ps, mid, e₁, h₁).
        given (pairs.back bs ps mid t e₁) (λ (f, (l, (p, k))). record {
          ps = ps;
          file = f ∙ ap (λ z. (length ps ∷ gather L.bytes ps) ++ z) (read_rest h₁) ∙ append-nil (length ps ∷ gather L.bytes ps);
          small = l;
          held = p;
          passing = k;
          plan = sym (read_value h₁);
        })))

    -- the bytes of some pairs: as many as the layout gives a pair, for each
    pub bytes_size : (ps : List Named) → length (gather L.bytes ps) ≡ A.width * length ps
    bytes_size [] = omega arith
    bytes_size (p ∷ ps) = omega (arith, length-append (L.bytes p) (gather L.bytes ps), A.wide p, bytes_size ps)

    -- a count byte and 64 pairs
    abbrev pub plan_size_by : ℕ
    plan_size_by = 1 + A.width * plan_limit

    -- the pairs that the layout can hold
    abbrev pub PlanHeld : Plan → Type 0
    PlanHeld M = T (all? (λ e. A.holds (name_of G e)) (edges_in G.m (on M)))

    all_names : (ds : List ℕ) → All (λ p. T (A.holds p)) (map (name_of G) ds) → T (all? (λ e. A.holds (name_of G e)) ds)
    all_names [] h = tt
    all_names (d ∷ ds) h = and_i (A.holds (name_of G d)) (all? (λ e. A.holds (name_of G e)) ds) h.0 (all_names ds h.1)

    names_all : (ds : List ℕ) → T (all? (λ e. A.holds (name_of G e)) ds) → All (λ p. T (A.holds p)) (map (name_of G) ds)
    names_all [] t = tt
    names_all (d ∷ ds) t = (
      and_l (A.holds (name_of G d)) (all? (λ e. A.holds (name_of G e)) ds) t,
      names_all ds (and_r (A.holds (name_of G d)) (all? (λ e. A.holds (name_of G e)) ds) t),
    )

    module _ (bs : List ℕ) (M : Plan) (is_b : T (is_bytes bs)) (e : read_plan_by L G bs ≡ accepted M) where
      -- accepted bytes are written back the same
      pub plan_read_write_by : plan_bytes_by L G M ≡ bs
      unfolding plan_bytes_by
      plan_read_write_by = given (plan_pairs_law bs M is_b e) (λ X. given (edges_are M X.ps X.passing X.plan) (λ q.
          ap (λ es. length es ∷ pair_list_by L G es) q
          ∙ ap₂ (λ n zs. n ∷ zs) (length-map X.ps (edge_of_pair G)) (pairs_back L start X.ps X.passing) ∙ sym X.file))

      -- are a plan within the quotas
      pub plan_read_within_by : M ∈ plans_of G
      plan_read_within_by = given (plan_pairs_law bs M is_b e) (λ X.
          given (edges_are M X.ps X.passing X.plan) (λ q.
          given (passes_fit start X.ps (λ v. zero-le) (λ v. zero-le) X.passing) (λ (f, g).
          within_plan G M (ap length X.plan ∙ plan_of_length G.m (λ d. elem d (edges X.ps))) (matching_within G (on M) (record {
            at_s = λ v. subst (λ n. n ≤ G.quota_s v) (sym (deg_at_node (surveyors G) (on M) v ∙ ap (at_node (surveyors G) v) q)) (f v);
            at_t = λ v. subst (λ n. n ≤ G.quota_t v) (sym (deg_at_node (stands G) (on M) v ∙ ap (at_node (stands G) v) q)) (g v);
          })))))

      -- and of pairs that the layout can hold
      pub plan_read_held : PlanHeld M
      plan_read_held = given (plan_pairs_law bs M is_b e) (λ X. given (edges_are M X.ps X.passing X.plan) (λ q.
          subst (λ ds. T (all? (λ e. A.holds (name_of G e)) ds)) (sym q)
          (all_names (edges X.ps) (subst (All (λ p. T (A.holds p))) (sym (names_back start X.ps X.passing)) X.held))))

      pub plan_read_matching_by : Lawful G → Matching G (on M)
      plan_read_matching_by law = within_matching G (on M) law (plan_within G plan_read_within_by)

      pub plan_accepted_size_by : length bs ≤ plan_size_by
      plan_accepted_size_by = given (plan_pairs_law bs M is_b e) (λ X.
          given (mul-le-mul_left A.width (leb→le (length X.ps) plan_limit X.small)) (λ h.
          subst (λ z. length z ≤ plan_size_by) (sym X.file) (omega (arith, bytes_size X.ps))))

    -- a plan within the quotas, written and read
    pub bytes_are : (ds : List ℕ) → pair_list_by L G ds ≡ gather L.bytes (map (name_of G) ds)
    bytes_are [] = refl
    bytes_are (d ∷ ds) = ap (λ z. L.bytes (name_of G d) ++ z) (bytes_are ds)

    module _ (F : Fileable G) (M : Plan) (ok : M ∈ plans_of G) where
      pub plan_write_read_by : PlanHeld M → read_plan_by L G (plan_bytes_by L G M) ≡ accepted M
      unfolding read_plan_by plan_bytes_by
      plan_write_read_by held =
          let ds = edges_in G.m (on M) in
          let ps = map (name_of G) ds in
          let file : length ds ∷ pair_list_by L G ds ≡ (length ps ∷ gather L.bytes ps) ++ [] =
          ap₂ (λ n zs. n ∷ zs) (sym (length-map ds (name_of G))) (bytes_are ds) ∙ sym (append-nil (length ps ∷ gather L.bytes ps)) in
          let small : T (leb (length ps) plan_limit) = le→leb (length ps) plan_limit
          (subst (λ n. n ≤ plan_limit) (sym (length-map ds (name_of G))) (plan_few F M ok)) in
          let read = ap (λ bs. read_count plan_limit bs then read_pairs_by L G) file ∙ pairs.forth ps [] (small, (names_all ds held, written_pass F M ok)) in
          ap (λ r. whole (r then (λ ps rest. accepted (plan_of_pairs G ps, rest)))) read ∙ ap accepted (plan_back F M ok)

      pub plan_size_by_law : length (plan_bytes_by L G M) ≤ plan_size_by
      unfolding plan_bytes_by
      plan_size_by_law = omega (
        arith,
        mul-le-mul_left A.width (plan_few F M ok),
        ap length (bytes_are (edges_in G.m (on M))),
        bytes_size (map (name_of G) (edges_in G.m (on M))),
        ap (λ n. A.width * n) (length-map (edges_in G.m (on M)) (name_of G)),
      )

  -- ---- plans with shifts
  -- pairs are as long as their number says
  pub pairs_size : (ds : List ℕ) → length (pair_list G ds) ≡ pair_width * length ds
  pairs_size ds =
      omega (arith, ap length (bytes_are shifted_pair in_shifted_pair ds), bytes_size shifted_pair in_shifted_pair (map (name_of G) ds), length-map ds (name_of G))

  held_shifted : (M : Plan) → PlanHeld shifted_pair in_shifted_pair M
  held_shifted M = go (edges_in G.m (on M))
    where
      go : (ds : List ℕ) → T (all? (λ e. true) ds)
      go [] = tt
      go (d ∷ ds) = go ds

  module _ (bs : List ℕ) (M : Plan) (is_b : T (is_bytes bs)) (e : read_plan G bs ≡ accepted M) where
    -- accepted bytes are written back the same
    pub plan_read_write : plan_bytes G M ≡ bs
    plan_read_write = plan_read_write_by shifted_pair in_shifted_pair bs M is_b e

    -- accepted bytes are a plan within the quotas
    pub plan_read_within : M ∈ plans_of G
    plan_read_within = plan_read_within_by shifted_pair in_shifted_pair bs M is_b e

    -- accepted bytes are, in a lawful instance, a set of edges within the quotas of both sides
    pub plan_read_matching : Lawful G → Matching G (on M)
    plan_read_matching law = plan_read_matching_by shifted_pair in_shifted_pair bs M is_b e law

    -- at most 193 bytes
    pub plan_accepted_size : length bs ≤ plan_size
    plan_accepted_size = plan_accepted_size_by shifted_pair in_shifted_pair bs M is_b e

  module _ (F : Fileable G) (M : Plan) (ok : M ∈ plans_of G) where
    pub plan_write_read : read_plan G (plan_bytes G M) ≡ accepted M
    plan_write_read = plan_write_read_by shifted_pair in_shifted_pair F M ok (held_shifted M)

    -- "Plans of up to 64 entries now need 193 bytes"
    pub plan_size_law : length (plan_bytes G M) ≤ plan_size
    plan_size_law = plan_size_by_law shifted_pair in_shifted_pair F M ok
