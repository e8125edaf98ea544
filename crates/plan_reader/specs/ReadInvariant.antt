-- The reading of a plan file after some of its pairs: what the arrays hold by then, what one pair more makes of them, and how the
-- reading ends.
use Rattle.std.specs.Prelude.{ℕ, zero, suc, ◌+◌, ◌-◌, ◌*◌, ◌≤◌, ◌<◌, ◌≡◌, Bool, true, false, not, cond, ◌||◌, List, [], ◌∷◌, ◌++◌, map, length, take, drop, get_or, set, replicate, T, eqb, leb, ltb, Result}
use Rattle.std.proofs.Common.{arith, add-one, sym, ap₂, ◌∙◌, subst, length-set, length-append, length-drop, drop_of_length-le, drop-cons, get_or-set_same, get_or-set_other, take-suc-set, nltb→le, le-leb}
use Rattle.std.proofs.Math.Decide.{dec_lt}
use Rattle.std.proofs.Math.Path.{refl, ap}
use Rattle.std.proofs.Math.Logic.{by_cases}
use Rattle.std.proofs.lemmas.List.{map-append, length-map, length-replicate}
use Rattle.std.proofs.Math.ListN.{get_or-eq_default}
use Rattle.std.proofs.Math.Dec.{nleb→lt}
use Rattle.lists.specs.Test.{given, by-eq, bit, bit_one, eqb_no, nor_l, nor_r}
use Rattle.lists.specs.Sum.{sum_append}
use Rattle.lists.specs.Keep.{any_append}
use Rattle.model.specs.Limits.{plan_limit, pair_width}
use Rattle.model.specs.Reading.{Reading, accepted, refused, refuse_by, whole}
use Rattle.model.specs.Roster.{elem}
use Rattle.model.specs.Instance.{Instance, Side, surveyors, stands}
use Rattle.model.specs.Plans.{Plan, on}
use Rattle.model.specs.PlanFile.{Named, PairLayout, edges_in, edge_of_pair, full, Pairs, pair_check, with_pair, plan_of_pairs, read_plan_by}
use Rattle.theory_files.specs.Entries.{cond_zero}
use Rattle.theory_files.specs.Reads.{accepted_value, refused-not}
use Rattle.theory_files.specs.Chosen.{on_plan_of, plan_of_length, edges_in_cong, From, Below, edges_of_elem, at_node}
use Rattle.theory_files.specs.PlanPairs.{no_pairs, pairs_left, plan_empty, plan_long, plan_starts, left_cut, left_pair, left_none}
use Rattle.arrays.specs.ArrayInstance.{at, flag, shown}
use Rattle.std.specs.declared.result.Result.TheVariants.{Ok, Err}
use Rattle.answers.specs.declared.Refusal.{Refusal}
use Rattle.answers.specs.RefusalCases.{number_of}
use Rattle.plan_reader.specs.declared.PlanRead.{PlanRead}
use Rattle.arrays.specs.Passes.{Low, all_blank}
use Rattle.plan_lookup.specs.PairRefusal.{pair_refusal}
use Rattle.pair_bytes.specs.PairAt.{pair_layout, width_of, width_most, named_at, field_cut, field_at}
use Rattle.plan_reader.specs.Answers.{answer_of, plan_in, ReadAs, ReadFor}

-- ---- ascending lists with one number more
from_snoc : (j f e : ℕ) (es : List ℕ) → j ≤ e → f ≤ e → From j es → Below f es → From j (es ++ e ∷ [])
from_snoc j f e [] h k a b = (h, tt)
from_snoc j f e (d ∷ es) h k a b = (a.0, from_snoc (suc d) f e es (omega (arith, b.0)) k a.1 b.1)

below_snoc : (f e : ℕ) (es : List ℕ) → f ≤ e → Below f es → Below (e + 1) (es ++ e ∷ [])
below_snoc f e [] k b = (omega arith, tt)
below_snoc f e (d ∷ es) k b = (omega (arith, b.0), below_snoc f e es k b.1)

below_weaker : (f m : ℕ) (es : List ℕ) → f ≤ m → Below f es → Below m es
below_weaker f m [] h b = tt
below_weaker f m (d ∷ es) h b = (omega (arith, b.0), below_weaker f m es h b.1)

below_not : (m e : ℕ) (es : List ℕ) → m ≤ e → Below m es → elem e es ≡ false
below_not m e [] h b = refl
below_not m e (d ∷ es) h b = ap (λ z. z || elem e es) (eqb_no e d (λ (q : e ≡ d). omega (arith, b.0))) ∙ below_not m e es h b.1

-- ---- a flag set, a place taken
flag_snoc : (o : List Bool) (es : List ℕ) (e : ℕ) → e < length o → ((d : ℕ) → flag o d ≡ elem d es) → (d : ℕ) → flag (set o e true) d ≡ elem d (es ++ e ∷ [])
flag_snoc o es e l h d = by-eq d e
    (λ q b. ap (flag (set o e true)) q ∙ get_or-set_same o e true false l
    ∙ sym (any_append (eqb d) es (e ∷ []) ∙ ap (λ z. elem d es || (z || false)) b ∙ or_true (elem d es)))
    (λ q b. get_or-set_other o e d true false q ∙ h d ∙ sym (any_append (eqb d) es (e ∷ []) ∙ ap (λ z. elem d es || (z || false)) b ∙ or_false (elem d es)))
  where
    or_true : (b : Bool) → b || true ≡ true
    or_true true = refl
    or_true false = refl

    or_false : (b : Bool) → b || false ≡ b
    or_false true = refl
    or_false false = refl

used_snoc : (K : Side) (u : List ℕ) (es : List ℕ) (e : ℕ) → K.end e < length u → ((v : ℕ) → at u v ≡ at_node K v es) → (v : ℕ)
    → at (set u (K.end e) (at u (K.end e) + 1)) v ≡ at_node K v (es ++ e ∷ [])
used_snoc K u es e l h v = by-eq (K.end e) v
    (λ q b. omega (
      arith,
      ap (at (set u (K.end e) (at u (K.end e) + 1))) (sym q),
      get_or-set_same u (K.end e) (at u (K.end e) + 1) 0 l,
      h (K.end e),
      ap (λ w. at_node K w es) q,
      sum_append (λ d. bit (eqb (K.end d) v)) es (e ∷ []),
      ap bit b,
    ))
    (λ q b. omega (
      arith,
      get_or-set_other u (K.end e) v (at u (K.end e) + 1) 0 (λ (p : v ≡ K.end e). q (sym p)),
      h v,
      sum_append (λ d. bit (eqb (K.end d) v)) es (e ∷ []),
      ap bit b,
    ))

-- no refusal
passed : (m e from : ℕ) (fullS fullT : Bool) → pair_refusal m e from fullS fullT ≡ 0 → (e < m) × (from ≤ e) × T (not fullS) × T (not fullT)
unfolding pair_refusal
passed m e from fullS fullT q =
    given (cond_zero (leb m e) 9 q) (λ (t, q₁).
    given (cond_zero (ltb e from) 10 q₁) (λ (u, q₂).
    given (cond_zero (fullS || fullT) 11 q₂) (λ (v, z).
    (nleb→lt m e t, nltb→le e from u, nor_l fullS fullT v, nor_r fullS fullT v))))

-- a pair that names no edge is refused, whatever its ends hold
refusal_same : (m e from : ℕ) (a b c d : Bool) → (e < m → (a ≡ c) × (b ≡ d)) → pair_refusal m e from a b ≡ pair_refusal m e from c d
unfolding pair_refusal
refusal_same m e from a b c d h = by_cases (dec_lt e m)
    (λ l. given (h l) (λ (p, q). ap₂ (λ x y. cond (leb m e) 10 (cond (ltb e from) 11 (cond (x || y) 12 0))) p q))
    (λ n. let y = le-leb m e (omega arith) in
    ap (λ z. cond z 10 (cond (ltb e from) 11 (cond (a || b) 12 0))) y ∙ sym (ap (λ z. cond z 10 (cond (ltb e from) 11 (cond (c || d) 12 0))) y))

refused_by : (c : ℕ) (r : Reading (Plan × List ℕ)) → 0 < c → whole (refuse_by c r) ≡ refused c
refused_by zero r h = absurd (omega arith)
refused_by (suc c) r h = refl

passes_by : (c : ℕ) (r : Reading (Plan × List ℕ)) → c ≡ 0 → refuse_by c r ≡ r
passes_by zero r e = refl
passes_by (suc c) r e = absurd (omega arith)

module _ (shifts : Bool) (m : ℕ) (sv st sh qs qt file : List ℕ) where
  abbrev L : PairLayout
  L = pair_layout shifts

  -- node counts, ranks and ties do not matter to a plan file
  abbrev pub G : Instance
  G = shown m 0 0 sv st [] [] sh [] qs qt

  same_reading : (ns nt : ℕ) (rank_s rank_t : List ℕ) (tied : List Bool)
      → plan_in shifts G file ≡ plan_in shifts (shown m ns nt sv st rank_s rank_t sh tied qs qt) file
  unfolding read_plan_by edge_of_pair
  same_reading ns nt rank_s rank_t tied = refl

  pub for_all : (r : Result PlanRead Refusal) → ReadAs shifts G file r → ReadFor shifts m sv st sh qs qt file r
  for_all r A ns nt rank_s rank_t tied =
      let s = same_reading ns nt rank_s rank_t tied in
      record { answer = A.answer ∙ ap (answer_of m) s; chosen = λ M q. A.chosen M (s ∙ q); edges = λ M q. A.edges M (s ∙ q) }

  -- k of n pairs are read, up to the place `at'`: es are their edges, from is the lowest that may come next; us, ut count them at each node
  pub record Invariant (n k at' from : ℕ) (chosen : List Bool) (edges us ut : List ℕ) : Type 0 where
    pub ps : List Named
    pub es : List ℕ
    pub named : map (edge_of_pair G) ps ≡ es
    pub count : length ps ≡ k
    pub reading : plan_in shifts G file ≡ whole (pairs_left L G (n - k) (record { seen = es; from = from }) (drop at' file) ps)
    pub inside : at' ≤ length file
    pub early : at' ≤ pair_width * k + 1
    pub ascending : From 0 es
    pub below : Below from es
    pub small : from ≤ m
    pub flags : (e : ℕ) → flag chosen e ≡ elem e es
    pub listed : take k edges ≡ es
    pub used_s : (v : ℕ) → at us v ≡ at_node (surveyors G) v es
    pub used_t : (v : ℕ) → at ut v ≡ at_node (stands G) v es
    pub sizes : (length chosen ≡ 1024) × (length edges ≡ 64) × (length us ≡ 32) × (length ut ≡ 32)

  -- no more places are taken than pairs are read
  at_few : (K : Side) (v : ℕ) (es : List ℕ) → at_node K v es ≤ length es
  at_few K v [] = omega arith
  at_few K v (e ∷ es) = omega (arith, bit_one (eqb (K.end e) v), at_few K v es)

  pub used_few : (n k at' from : ℕ) (chosen : List Bool) (edges us ut : List ℕ)
      → Invariant n k at' from chosen edges us ut → (v : ℕ) → (at us v ≤ k) × (at ut v ≤ k)
  used_few n k at' from chosen edges us ut now v =
      let l = ap length (sym now.named) ∙ length-map now.ps (edge_of_pair G) ∙ now.count in
      (omega (arith, l, now.used_s v, at_few (surveyors G) v now.es), omega (arith, l, now.used_t v, at_few (stands G) v now.es))

  pub invariant_first : (n : ℕ) → 0 < length file → get_or file 0 0 ≡ n → n ≤ plan_limit
      → Invariant n 0 1 0 (replicate 1024 false) (replicate 64 0) (replicate 32 0) (replicate 32 0)
  invariant_first n l h k = record {
    ps = [];
    es = [];
    named = refl;
    count = refl;
    reading =
        ap (plan_in shifts G) (drop-cons file 0 0 l ∙ ap (λ z. z ∷ drop 1 file) h) ∙ plan_starts L G n (drop 1 file) k
        ∙ ap (λ z. whole (pairs_left L G z no_pairs (drop 1 file) [])) (all n);
    inside = l;
    early = omega arith;
    ascending = tt;
    below = tt;
    small = omega arith;
    flags = λ e. all_blank false 1024 e;
    listed = refl;
    used_s = λ v. all_blank 0 32 v;
    used_t = λ v. all_blank 0 32 v;
    sizes = (length-replicate 1024 false, length-replicate {A = ℕ} 64 0, length-replicate {A = ℕ} 32 0, length-replicate {A = ℕ} 32 0);
  }
    where
      all : (n : ℕ) → n ≡ n - 0
      all n = omega arith

  -- ---- the next pair
  module _ (n k at' from : ℕ) (chosen : List Bool) (edges us ut : List ℕ) (now : Invariant n k at' from chosen edges us ut) (more : k < n)
      (w : ℕ) (wide : w ≡ width_of shifts) where
    abbrev s : Pairs
    s = record { seen = now.es; from = from }

    left : n - k ≡ suc (n - (k + 1))
    left = omega arith

    -- the file ends inside it
    pub invariant_cut : length file < at' + w → plan_in shifts G file ≡ refused 1
    invariant_cut h = now.reading ∙ ap (λ z. whole (pairs_left L G z s (drop at' file) now.ps)) left
        ∙ ap whole (left_cut L G (n - (k + 1)) s (drop at' file) now.ps (field_cut shifts (drop at' file) (short (length-drop at' file))))
      where
        short : length (drop at' file) ≡ length file - at' → length (drop at' file) < width_of shifts
        short e = omega (arith, now.inside, wide)

    module _ (low-s : Low m sv 32) (low-t : Low m st 32) (long : at' + w ≤ length file) (e : ℕ)
        (is : e ≡ edge_of_pair G (named_at shifts file at'))
        (c : ℕ) (check : c ≡ pair_refusal m e from (leb (at qs (at sv e)) (at us (at sv e))) (leb (at qt (at st e)) (at ut (at st e)))) where
      abbrev p : Named
      p = named_at shifts file at'

      field_here : L.field (drop at' file) ≡ accepted (p, drop (at' + w) file)
      field_here = field_at shifts file at' (omega (arith, wide)) ∙ ap (λ z. accepted (p, drop (at' + z) file)) (sym wide)

      checked : c ≡ pair_check G s p
      unfolding pair_refusal
      checked =
          check
          ∙ refusal_same m e from (leb (at qs (at sv e)) (at us (at sv e))) (leb (at qt (at st e)) (at ut (at st e)))
          (full (surveyors G) now.es e) (full (stands G) now.es e)
          (λ l. (ap (leb (at qs (at sv e))) (now.used_s (at sv e)), ap (leb (at qt (at st e))) (now.used_t (at st e))))
          ∙ ap (λ d. pair_refusal m d from (full (surveyors G) now.es d) (full (stands G) now.es d)) is

      next : plan_in shifts G file ≡ whole (refuse_by c (pairs_left L G (n - (k + 1)) (with_pair G s p) (drop (at' + w) file) (now.ps ++ p ∷ [])))
      next = now.reading ∙ ap (λ z. whole (pairs_left L G z s (drop at' file) now.ps)) left
          ∙ ap whole (left_pair L G (n - (k + 1)) s p (drop at' file) (drop (at' + w) file) now.ps field_here)
          ∙ ap (λ z. whole (refuse_by z (pairs_left L G (n - (k + 1)) (with_pair G s p) (drop (at' + w) file) (now.ps ++ p ∷ [])))) (sym checked)

      pub invariant_refused : 0 < c → plan_in shifts G file ≡ refused c
      invariant_refused h = next ∙ refused_by c (pairs_left L G (n - (k + 1)) (with_pair G s p) (drop (at' + w) file) (now.ps ++ p ∷ [])) h

      pub invariant_passed : c ≡ 0 → (e < m) × (from ≤ e) × (at us (at sv e) < at qs (at sv e)) × (at ut (at st e) < at qt (at st e))
      invariant_passed z =
          given (passed m e from (leb (at qs (at sv e)) (at us (at sv e))) (leb (at qt (at st e)) (at ut (at st e))) (sym check ∙ z)) (λ (a, b, x, y).
          (a, b, nleb→lt (at qs (at sv e)) (at us (at sv e)) x, nleb→lt (at qt (at st e)) (at ut (at st e)) y))

      pub invariant_on : c ≡ 0 → k < 64 → m ≤ 1024
          → Invariant n (k + 1) (at' + w) (e + 1) (set chosen e true) (set edges k e)
          (set us (at sv e) (at us (at sv e) + 1)) (set ut (at st e) (at ut (at st e) + 1))
      invariant_on z k64 m1024 = given (invariant_passed z) (λ (a, b, x, y). record {
        ps = now.ps ++ p ∷ [];
        es = now.es ++ e ∷ [];
        named = map-append (edge_of_pair G) now.ps (p ∷ []) ∙ ap₂ (λ u v. u ++ v ∷ []) now.named (sym is);
        count = length-append now.ps (p ∷ []) ∙ ap (λ i. i + 1) now.count;
        reading = next ∙ ap whole (passes_by c (pairs_left L G (n - (k + 1)) (with_pair G s p) (drop (at' + w) file) (now.ps ++ p ∷ [])) z)
            ∙ ap (λ t. whole (pairs_left L G (n - (k + 1)) t (drop (at' + w) file) (now.ps ++ p ∷ []))) same_state;
        inside = long;
        early = omega (arith, now.early, width_most shifts, wide);
        ascending = from_snoc 0 from e now.es (omega arith) b now.ascending now.below;
        below = below_snoc from e now.es b now.below;
        small = omega arith;
        flags = flag_snoc chosen now.es e (omega (arith, now.sizes.0)) now.flags;
        listed = ap (λ i. take i (set edges k e)) (add-one k) ∙ take-suc-set edges k e (omega (arith, now.sizes.1)) ∙ ap (λ u. u ++ e ∷ []) now.listed;
        used_s = used_snoc (surveyors G) us now.es e (omega (arith, low-s e a, now.sizes.2)) now.used_s;
        used_t = used_snoc (stands G) ut now.es e (omega (arith, low-t e a, now.sizes.3)) now.used_t;
        sizes = (
          length-set chosen e true ∙ now.sizes.0,
          length-set edges k e ∙ now.sizes.1,
          length-set us (at sv e) (at us (at sv e) + 1)
              ∙ now.sizes.2,
          length-set ut (at st e) (at ut (at st e) + 1) ∙ now.sizes.3,
        );
      })
        where
          same_state : with_pair G s p ≡ record { seen = now.es ++ e ∷ []; from = e + 1 }
          same_state =
              ap (λ d. record { seen = now.es ++ d ∷ []; from = suc d }) (sym is) ∙ ap (λ i. record { seen = now.es ++ e ∷ []; from = i }) (sym (add-one e))

  -- ---- the end
  module _ (n k at' from : ℕ) (chosen : List Bool) (edges us ut : List ℕ) (now : Invariant n k at' from chosen edges us ut) (end : k ≡ n) where
    ended : plan_in shifts G file ≡ whole (accepted (plan_of_pairs G now.ps, drop at' file))
    ended = now.reading ∙ ap (λ i. whole (pairs_left L G i (record { seen = now.es; from = from }) (drop at' file) now.ps)) none
        ∙ ap whole (left_none L G (record { seen = now.es; from = from }) (drop at' file) now.ps)
      where
        none : n - k ≡ 0
        none = omega arith

    pub invariant_long : at' < length file → plan_in shifts G file ≡ refused 9
    invariant_long h = ended ∙ ap (λ z. whole (accepted (plan_of_pairs G now.ps, z))) (drop-cons file at' 0 h)

    abbrev M : Plan
    M = plan_of_pairs G now.ps

    M-at : (e : ℕ) → on M e ≡ elem e now.es
    M-at e = by_cases (dec_lt e m)
        (λ h. on_plan_of m (λ e. elem e (map (edge_of_pair G) now.ps)) e h ∙ ap (elem e) now.named)
        (λ h. get_or-eq_default M false (omega (arith, plan_of_length m (λ e. elem e (map (edge_of_pair G) now.ps))))
        ∙ sym (below_not m e now.es (omega arith) (below_weaker from m now.es now.small now.below)))

    M-edges : edges_in m (on M) ≡ now.es
    M-edges =
        edges_in_cong m (on M) (λ e. elem e now.es) (λ e h. M-at e)
        ∙ edges_of_elem m now.es now.ascending (below_weaker from m now.es now.small now.below)

    M-count : length (edges_in m (on M)) ≡ n
    M-count = ap length (M-edges ∙ sym now.named) ∙ length-map now.ps (edge_of_pair G) ∙ now.count ∙ end

    pub invariant_accepted : length file ≤ at' → ReadAs shifts G file (Ok (record { n = n; chosen = chosen; edges = edges }))
    invariant_accepted h =
        given (ended ∙ ap (λ z. whole (accepted (plan_of_pairs G now.ps, z))) (drop_of_length-le file h)) (λ (q : plan_in shifts G file ≡ accepted M). record {
          answer = ap accepted (sym M-count) ∙ sym (ap (answer_of m) q);
          chosen = λ N a e. now.flags e ∙ sym (M-at e) ∙ ap (λ z. on z e) (accepted_value (sym q ∙ a));
          edges =
              λ N a. subst (λ z. take (length (edges_in m (on z))) edges ≡ edges_in m (on z)) (accepted_value (sym q ∙ a))
              (ap (λ i. take i edges) (M-count ∙ sym end) ∙ now.listed ∙ sym M-edges);
        })

  -- refused
  refused_as : (c : Refusal) → plan_in shifts G file ≡ refused (number_of c) → ReadAs shifts G file (Err c)
  refused_as c q = record {
    answer = sym (ap (answer_of m) q);
    chosen = λ M a. refused-not (sym q ∙ a);
    edges = λ M a. refused-not (sym q ∙ a);
  }

  -- so for every instance that the arrays show
  pub refused_for : (c : Refusal) → plan_in shifts G file ≡ refused (number_of c) → ReadFor shifts m sv st sh qs qt file (Err c)
  refused_for c q = for_all (Err c) (refused_as c q)

  pub empty_file : length file ≤ 0 → plan_in shifts G file ≡ refused 1
  empty_file h = ap (plan_in shifts G) (none file h) ∙ plan_empty L G
    where
      none : (f : List ℕ) → length f ≤ 0 → f ≡ []
      none [] h = refl
      none (x ∷ f) h = absurd (omega arith)

  pub long_count : 0 < length file → plan_limit < get_or file 0 0 → plan_in shifts G file ≡ refused 2
  long_count l h = ap (plan_in shifts G) (drop-cons file 0 0 l) ∙ plan_long L G (get_or file 0 0) (drop 1 file) h
