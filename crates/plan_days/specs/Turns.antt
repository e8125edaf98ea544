-- The chain by tables, one for each side. In each turn an entry that has just taken a day is told in the table of one side, and not yet in the other,
-- where it settles; the entry that it meets there takes the other of the two days, and is the next, on the other side. The sides exchange, and so do
-- the days. What an entry more asks for is here too: room for it, which theory_days has where no node has more entries than there are days.
use Rattle.std.specs.Prelude.{ℕ, zero, suc, ◌+◌, ◌-◌, ◌≤◌, ◌<◌, ◌≡◌, refl, ◌≢◌, true, List, length, set, T, eqb}
use Rattle.std.proofs.Common.{arith, add-one, sym, ap, ◌∙◌, length-set, get_or-set_same, eqb→eq}
use Rattle.std.proofs.Math.Decide.{ℕ_discrete}
use Rattle.std.proofs.Math.Path.{subst}
use Rattle.std.proofs.Math.Logic.{by_cases}
use Rattle.std.proofs.Math.Dec.{eqb_refl}
use Rattle.lists.specs.Test.{bit_yes, eqb_yes, eqb_no}
use Rattle.lists.specs.Sum.{count}
use Rattle.lists.specs.Search.{low, low_is}
use Rattle.model.specs.Limits.{node_limit, day_size, last_day}
use Rattle.arrays.specs.ArrayInstance.{at}
use Rattle.arrays.specs.Passes.{Low}
use Rattle.theory_days.specs.Chain.{Proper}
use Rattle.theory_days.specs.Spread.{spread, free_day, free_in_law}
use Rattle.theory_days.proofs.Spread.{spread_proper}
use Rattle.plan_days.specs.Chase.{meets, chase_in, Small, set_small}
use Rattle.plan_days.specs.DayByDay.{free_in, with_day_in, with_free, with_chase, spread_in, spread_is, spread_length, spread_small}
use Rattle.plan_days.specs.Tables.{place, Held, Without, free_told, first_free, held_more, held_begins, held_leaves}
use Rattle.plan_days.specs.Tables.{settled, who_in, who_other, who_end, who_day, somebody, nobody, settled_both, settled_alone}

-- cur has taken the day `to` in the place of `other`; the table by far ends tells it, the one by ends not yet
pub record Turn (n : ℕ) (end far ds table whole : List ℕ) (cur to other : ℕ) : Type 0 where
  pub in_n_law : cur < n
  pub own : at ds cur ≡ to
  pub small : Small last_day ds
  pub long : n ≤ length ds
  pub told : Held n far ds whole
  pub open_end : Without n end ds table cur other

module _ (n : ℕ) (end far ds table whole : List ℕ) (cur to other : ℕ) (nodes : Low n end node_limit) (differ : to ≢ other) (to_in : to ≤ last_day)
    (other-in : other ≤ last_day) (U : Turn n end far ds table whole cur to other) where
  module _ {r : ℕ} {after : List ℕ} (found : r ≡ at table (place (at end cur) to)) (left : after ≡ settled table (at end cur) to other cur) where
    -- it meets nobody, and both tables are whole
    turn_ends : r ≡ 0 → (n ≡ low (meets end ds cur) n) × Held n end ds after
    turn_ends z = (
      sym (nobody n end ds table cur to other U.open_end U.own U.in_n_law differ (nodes cur U.in_n_law) (omega arith) (omega arith) U.small
          (sym found ∙ z)),
      subst (Held n end ds) (sym left)
          (settled_alone n end ds table cur to other U.open_end U.own U.in_n_law differ (nodes cur U.in_n_law) (omega arith) (omega arith) U.small
          (sym found ∙ z)),
    )

    -- it meets an entry, whose turn it is
    turn_on : r ≢ 0
        → (r - 1 < n) × (r - 1 ≡ low (meets end ds cur) n) × Turn n far end (set ds (r - 1) other) whole after (r - 1) other to
    turn_on h = (
      inside,
      sym (somebody n end ds table cur to other U.open_end U.own U.in_n_law differ (nodes cur U.in_n_law) (omega arith) (omega arith) U.small e some),
      record {
        in_n_law = inside;
        own = get_or-set_same ds e other 0 (omega (arith, U.long, inside));
        small = set_small last_day ds e other other-in U.small;
        long = omega (arith, length-set ds e other, U.long);
        told = subst (Held n end (set ds e other)) (sym left)
            (settled_both n end ds table cur to other U.open_end U.own U.in_n_law differ (nodes cur U.in_n_law) (omega arith) (omega arith)
            U.small e some
            (omega (arith, U.long, inside)));
        open_end = held_leaves n far ds whole U.told e to other inside
            (who_day n end ds table cur to other U.open_end U.own U.in_n_law differ (nodes cur U.in_n_law) (omega arith) (omega arith) U.small e some);
      },
    )
      where
        e : ℕ
        e = r - 1

        some : at table (place (at end cur) to) ≡ suc e
        some = let q : r ≡ suc (r - 1) = omega arith in sym found ∙ q

        inside : e < n
        inside = who_in n end ds table cur to other U.open_end U.own U.in_n_law differ (nodes cur U.in_n_law) (omega arith) (omega arith)
            U.small e some

-- where all days are apart, nobody is met
pub proper_ends : (n : ℕ) (sv st ds table whole : List ℕ) (cur a b : ℕ) → Low n st node_limit → a ≢ b → a ≤ last_day → b ≤ last_day
    → Turn n st sv ds table whole cur a b → Proper (at sv) (at st) n (at ds) → at table (place (at st cur) a) ≡ 0
proper_ends n sv st ds table whole cur a b nodes differ a_in b_in U P = go (at table (place (at st cur) a)) refl
  where
    go : (z : ℕ) → at table (place (at st cur) a) ≡ z → z ≡ 0
    go zero q = refl
    go (suc e) q = absurd (P true e cur
        (who_in n st ds table cur a b U.open_end U.own U.in_n_law differ (nodes cur U.in_n_law) (omega arith) (omega arith) U.small e q) U.in_n_law
        (who_other n st ds table cur a b U.open_end U.own U.in_n_law differ (nodes cur U.in_n_law) (omega arith) (omega arith) U.small e q)
        (who_end n st ds table cur a b U.open_end U.own U.in_n_law differ (nodes cur U.in_n_law) (omega arith) (omega arith) U.small e q)
        (who_day n st ds table cur a b U.open_end U.own U.in_n_law differ (nodes cur U.in_n_law) (omega arith) (omega arith) U.small e q ∙ sym
        U.own))

-- ---- what the chain asks for, and an entry more
pub record Chasing (n : ℕ) (sv st : List ℕ) (a b k : ℕ) (ds whoS whoT : List ℕ) : Type 0 where
  pub many : n ≤ day_size
  pub nodes_s : Low n sv node_limit
  pub nodes_t : Low n st node_limit
  pub differ : a ≢ b
  pub a_in : a ≤ last_day
  pub b_in : b ≤ last_day
  pub turn : Turn n st sv ds whoT whoS k a b
  pub proper : Proper (at sv) (at st) n (at (chase_in n sv st a b n k ds))

-- along the chain: an entry settles at its stand on day a, and the one that it meets there at its surveyor on day b
module _ {n : ℕ} {sv st : List ℕ} {a b k : ℕ} {ds₀ ws₀ wt₀ : List ℕ} (P : Chasing n sv st a b k ds₀ ws₀ wt₀) {ds ws wt : List ℕ} {cur r : ℕ}
    {after : List ℕ} where
  module _ (U : Turn n st sv ds wt ws cur a b) (found : r ≡ at wt (place (at st cur) a)) (left : after ≡ settled wt (at st cur) a b cur) where
    pub stand_ends : r ≡ 0 → (n ≡ low (meets st ds cur) n) × Held n st ds after
    stand_ends = turn_ends n st sv ds wt ws cur a b P.nodes_t P.differ P.a_in P.b_in U found left

    pub stand_meets : r ≢ 0 → (r - 1 < n) × (r - 1 ≡ low (meets st ds cur) n) × Turn n sv st (set ds (r - 1) b) ws after (r - 1) b a
    stand_meets = turn_on n st sv ds wt ws cur a b P.nodes_t P.differ P.a_in P.b_in U found left

  module _ (U : Turn n sv st ds ws wt cur b a) (found : r ≡ at ws (place (at sv cur) b)) (left : after ≡ settled ws (at sv cur) b a cur) where
    pub surveyor_ends : r ≡ 0 → (n ≡ low (meets sv ds cur) n) × Held n sv ds after
    surveyor_ends = turn_ends n sv st ds ws wt cur b a P.nodes_s (λ q. P.differ (sym q)) P.b_in P.a_in U found left

    pub surveyor_meets : r ≢ 0 → (r - 1 < n) × (r - 1 ≡ low (meets sv ds cur) n) × Turn n st sv (set ds (r - 1) a) wt after (r - 1) a b
    surveyor_meets = turn_on n sv st ds ws wt cur b a P.nodes_s (λ q. P.differ (sym q)) P.b_in P.a_in U found left

pub record Placing (k : ℕ) (sv st ds whoS whoT : List ℕ) : Type 0 where
  pub many : k < day_size
  pub long : length ds ≡ day_size
  pub nodes_s : Low (k + 1) sv node_limit
  pub nodes_t : Low (k + 1) st node_limit
  pub small : Small last_day ds
  pub held_s : Held k sv ds whoS
  pub held_t : Held k st ds whoT
  pub free_s : free_in sv ds k < last_day
  pub free_t : free_in st ds k < last_day
  pub proper : Proper (at sv) (at st) (k + 1) (at (with_day_in k sv st ds))

-- a table's first free day is the first free day
module _ (k : ℕ) (sv st ds ws wt : List ℕ) (P : Placing k sv st ds ws wt) (b : ℕ) (b-is : b ≡ low (λ d. eqb (at wt (place (at st k) d)) 0) last_day) where
  b_free : b ≡ free_in st ds k
  b_free = b-is ∙ first_free k st ds wt P.held_t P.small (at st k)

  pub b_low : b < last_day
  b_low = subst (λ d. d < last_day) (sym b_free) P.free_t

  b_none : at wt (place (at st k) b) ≡ 0
  b_none = eqb→eq (at wt (place (at st k) b)) 0 (subst (λ d. T (eqb (at wt (place (at st k) d)) 0)) (sym b-is)
      ((low_is (λ d. eqb (at wt (place (at st k) d)) 0) last_day).2 (subst (λ d. d < last_day) b-is b_low)))

  -- it is free at the surveyor too
  pub placed : at ws (place (at sv k) b) ≡ 0 → (set ds k b ≡ with_day_in k sv st ds)
      × Held (k + 1) sv (set ds k b) (set ws (place (at sv k) b) (k + 1)) × Held (k + 1) st (set ds k b) (set wt (place (at st k) b) (k + 1))
  placed z = (
    with_free k sv st ds b b_free (sym (free_told k sv ds ws P.held_s P.small (at sv k) b (omega (arith, b_low)))
        ∙ eqb_yes (at ws (place (at sv k) b)) 0 z),
    held_more k sv ds ws P.held_s b (omega (arith, P.long, P.many)) (omega (arith, P.nodes_s k (omega arith), b_low)) z,
    held_more k st ds wt P.held_t b (omega (arith, P.long, P.many)) (omega (arith, P.nodes_t k (omega arith), b_low)) b_none,
  )

  -- it is not: another one, free at the surveyor, begins a chain
  module _ (a : ℕ) (a-is : a ≡ low (λ d. eqb (at ws (place (at sv k) d)) 0) last_day) (taken : at ws (place (at sv k) b) ≢ 0) where
    a_free : a ≡ free_in sv ds k
    a_free = a-is ∙ first_free k sv ds ws P.held_s P.small (at sv k)

    pub a_low : a < last_day
    a_low = subst (λ d. d < last_day) (sym a_free) P.free_s

    a_none : at ws (place (at sv k) a) ≡ 0
    a_none = eqb→eq (at ws (place (at sv k) a)) 0 (subst (λ d. T (eqb (at ws (place (at sv k) d)) 0)) (sym a-is)
        ((low_is (λ d. eqb (at ws (place (at sv k) d)) 0) last_day).2 (subst (λ d. d < last_day) a-is a_low)))

    pub chained : chase_in (k + 1) sv st a b (k + 1) k (set ds k a) ≡ with_day_in k sv st ds
    chained = with_chase k sv st ds b b_free a a_free (sym (free_told k sv ds ws P.held_s P.small (at sv k) b (omega (arith, b_low)))
        ∙ eqb_no (at ws (place (at sv k) b)) 0 taken)

    pub chasing : Chasing (k + 1) sv st a b k (set ds k a) (set ws (place (at sv k) a) (k + 1)) wt
    chasing = record {
      many = omega (arith, P.many);
      nodes_s = P.nodes_s;
      nodes_t = P.nodes_t;
      differ = λ q. taken (ap (λ d. at ws (place (at sv k) d)) (sym q) ∙ a_none);
      a_in = omega (arith, a_low);
      b_in = omega (arith, b_low);
      turn = record {
        in_n_law = omega arith;
        own = get_or-set_same ds k a 0 (omega (arith, P.long, P.many));
        small = set_small last_day ds k a (omega (arith, a_low)) P.small;
        long = omega (arith, length-set ds k a, P.long, P.many);
        told = held_more k sv ds ws P.held_s a (omega (arith, P.long, P.many)) (omega (arith, P.nodes_s k (omega arith), a_low)) a_none;
        open_end = held_begins k st ds wt P.held_t a b b_none;
      };
      proper = subst (λ xs. Proper (at sv) (at st) (k + 1) (at xs)) (sym chained) P.proper;
    }

-- ---- where no node has more entries than there are days, there is room for each
below : (p : ℕ → ℕ) (v k n : ℕ) → k ≤ n → count (λ j. eqb (p j) v) k ≤ count (λ j. eqb (p j) v) n
unfolding count
below p v k zero h = let e : k ≡ 0 = omega arith in subst (λ i. count (λ j. eqb (p j) v) i ≤ count (λ j. eqb (p j) v) 0) (sym e) (omega arith)
below p v k (suc n) h = by_cases (ℕ_discrete k (suc n))
    (λ e. subst (λ i. count (λ j. eqb (p j) v) i ≤ count (λ j. eqb (p j) v) (suc n)) (sym e) (omega arith))
    (λ d. omega (arith, below p v k n (omega arith)))

own_end : (p : ℕ → ℕ) (k n : ℕ) → k < n → count (λ j. eqb (p j) (p k)) k < count (λ j. eqb (p j) (p k)) n
unfolding count
own_end p k n h = omega (arith, below p (p k) (suc k) n h, bit_yes (eqb (p k) (p k)) (eqb_refl (p k)))

module _ (sv st : List ℕ) (n : ℕ) (many : n ≤ day_size) (fewS : (v : ℕ) → count (λ j. eqb (at sv j) v) n ≤ last_day)
    (fewT : (v : ℕ) → count (λ j. eqb (at st j) v) n ≤ last_day) (k : ℕ) (inside : k < n) where
  so_far : Proper (at sv) (at st) k (spread (at sv) (at st) last_day k) × ((j : ℕ) → j < k → spread (at sv) (at st) last_day k j < last_day)
  so_far = spread_proper (at sv) (at st) last_day last_day (omega arith) k (λ v. omega (arith, fewS v, below (at sv) v k n (omega arith)))
      (λ v. omega (arith, fewT v, below (at st) v k n (omega arith)))

  free : (end : List ℕ) → ((v : ℕ) → count (λ j. eqb (at end j) v) n ≤ last_day) → free_in end (spread_in k sv st) k < last_day
  free end few = subst (λ c. free_day (at end) c k (at end k) last_day < last_day) (sym (spread_is sv st k (omega arith)))
      (free_in_law (at end) (spread (at sv) (at st) last_day k) k (at end k) last_day last_day (omega arith)
      (omega (arith, few (at end k), own_end (at end) k n inside)) so_far.1)

  still_proper : Proper (at sv) (at st) (k + 1) (at (with_day_in k sv st (spread_in k sv st)))
  unfolding spread_in
  still_proper = subst (λ i. Proper (at sv) (at st) i (at (spread_in (suc k) sv st))) (sym (add-one k))
      (subst (Proper (at sv) (at st) (suc k)) (sym (spread_is sv st (suc k) (omega arith)))
      (spread_proper (at sv) (at st) last_day last_day (omega arith) (suc k) (λ v. omega (arith, fewS v, below (at sv) v (suc k) n inside))
      (λ v. omega (arith, fewT v, below (at st) v (suc k) n inside))).0)

  pub room : Low n sv node_limit → Low n st node_limit → {ds ws wt : List ℕ} → ds ≡ spread_in k sv st → Held k sv ds ws → Held k st ds wt
      → Placing k sv st ds ws wt
  room nodes_s nodes_t {ws = ws} {wt = wt} e = subst (λ ds. Held k sv ds ws → Held k st ds wt → Placing k sv st ds ws wt) (sym e) (λ held_s held_t. record {
    many = omega arith;
    long = spread_length sv st k;
    nodes_s = λ j h. nodes_s j (omega arith);
    nodes_t = λ j h. nodes_t j (omega arith);
    small = spread_small sv st k;
    held_s = held_s;
    held_t = held_t;
    free_s = free sv fewS;
    free_t = free st fewT;
    proper = still_proper;
  })
