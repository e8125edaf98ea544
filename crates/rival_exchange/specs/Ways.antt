-- The start and the end of a walk with the edges themselves, read from arrays: of all ways to lose an edge of the plan or to gain another in its
-- place, at the start x and at the end y, the first cheapest two that are apart. They are the search's (theory_verdict, Search.tip).
use Prim.Native.Nat.{ℕ, suc, ◌+◌, ◌-◌, ◌≤◌, ◌<◌}
use native.Mathlib.Omega.{arith}
use Rattle.std.specs.Prelude.{◌≡◌, refl, Bool, true, false, ◌&&◌, ◌||◌, eqb}
use Rattle.std.proofs.Math.Path.{sym, ap, ap₂}
use Rattle.std.proofs.Common.{◌∙◌, lt-ltb, le-ltb}
use Rattle.std.proofs.Math.Bool.{not, cond}
use mathlib.Core.List.{List, [], ◌∷◌, ◌++◌, map, map-map}
use Rattle.std.proofs.Math.Dec.{ltb}
use Rattle.lists.specs.Sum.{range, ∈_range}
use Rattle.lists.specs.Keep.{keep, keep_cong, gather, product}
use Rattle.lists.specs.Ranges.{keep_append}
use Rattle.lists.specs.First.{best}
use Rattle.model.specs.Instance.{Instance, surveyors, stands}
use Rattle.theory_verdict.specs.Ends.{Way, lose, gain, fresh}
use Rattle.theory_verdict.specs.Search.{end_price, apart?, room?, joins?, terminal}
use Rattle.arrays.specs.ArrayInstance.{at, flag, shown}
use Rattle.rival_tables.specs.Best.{best_turn, best_end, best_start, best_append, best_keep_map}
use Rattle.rival_gains.specs.Gains.{gainable}
use Rattle.rival_exchange.specs.declared.Ends.{Ends}

-- a number below m is an edge gained, m is "lost"
abbrev pub way_of : ℕ → ℕ → Way
way_of m c = cond (ltb c m) (gain c) lose

abbrev pub told : ℕ → Ends → ℕ × (Way × Way)
told m t = (t.price, (way_of m t.start, way_of m t.stop))

-- what is held, or a lower offer if it may come
abbrev pub Offered : Bool → ℕ → ℕ → ℕ → Ends → Ends → Type 0
Offered ok p a b held r = (m : ℕ) → told m r ≡ cond (ok && ltb p held.price) (p, (way_of m a, way_of m b)) (told m held)

pub way_gain : (m c : ℕ) → c < m → way_of m c ≡ gain c
way_gain m c h = ap (λ (b : Bool). cond b (gain c) lose) (lt-ltb c m h)

pub way_lose : (m : ℕ) → way_of m m ≡ lose
way_lose m = ap (λ (b : Bool). cond b (gain m) lose) (le-ltb m m (omega arith))

pub fresh_way : (m c : ℕ) → fresh (way_of m c) ≡ cond (ltb c m) (c ∷ []) []
fresh_way m c = go (ltb c m)
  where
    go : (b : Bool) → fresh (cond b (gain c) lose) ≡ cond b (c ∷ []) []
    go true = refl
    go false = refl

module _ (m : ℕ) (sv st rs rt : List ℕ) (x y : ℕ) where
  -- ---- the tests and prices of the search, which the ends and ranks decide
  abbrev pub apart : Way × Way → Bool
  apart = apart? (shown m 0 0 sv st rs rt [] [] [] []) x y

  abbrev pub bid : Way × Way → ℕ × (Way × Way)
  bid p = (end_price (at rs) x p.0 + end_price (at rt) y p.1, p)

  -- a start of price a, and whether the end may be lost with it
  abbrev pub Begun : (start a : ℕ) (free : Bool) → Type 0
  Begun start a free = (a ≡ end_price (at rs) x (way_of m start)) × (free ≡ apart (way_of m start, lose))

  pub begun_lost : Begun m 3 true
  begun_lost = (sym (ap (end_price (at rs) x) (way_lose m)), sym (ap (λ w. apart (w, lose)) (way_lose m)))

  pub begun_gain : (f a : ℕ) → f < m → a ≡ end_price (at rs) x (gain f) → Begun f a (apart (gain f, lose))
  begun_gain f a h e = (e ∙ sym (ap (end_price (at rs) x) (way_gain m f h)), sym (ap (λ w. apart (w, lose)) (way_gain m f h)))

  module _ (plan room_s : List Bool) where
    abbrev pub stops : ℕ → Bool
    stops = gainable st sv plan room_s (at st y)

    abbrev gainings : (ℕ → Bool) → List Way
    gainings t = map gain (keep t (range 0 m))

    -- ---- one start with every end: the end lost first, then the edges gained
    abbrev couples : Way → List (Way × Way)
    couples s = map (λ b. (s, b)) (lose ∷ gainings stops)

    unfoldable pub round : Way → ℕ × (Way × Way) → ℕ × (Way × Way)
    round s held = best bid held (keep apart (couples s))

    -- while the edges from g on are still to come
    unfoldable pub round_rest : Way → ℕ × (Way × Way) → ℕ → ℕ × (Way × Way)
    round_rest s held g = best (λ g. bid (s, gain g)) held (keep (λ g. stops g && apart (s, gain g)) (range g (m - g)))

    abbrev pub lost : Way → ℕ × (Way × Way) → ℕ × (Way × Way)
    lost s held = cond (apart (s, lose) && ltb (bid (s, lose)).0 held.0) (bid (s, lose)) held

    round_start : (s : Way) (held : ℕ × (Way × Way)) → round_rest s (lost s held) 0 ≡ round s held
    unfolding round round_rest best
    round_start s held =
        best_start (λ g. bid (s, gain g)) (λ g. stops g && apart (s, gain g)) (lost s held) m
        ∙ sym (best_keep_map bid apart (λ g. (s, gain g)) stops (lost s held) (range 0 m))
        ∙ ap (λ ps. best bid (lost s held) (keep apart ps)) (sym (map-map (λ b. (s, b)) gain (keep stops (range 0 m))))
        ∙ go (apart (s, lose))
      where
        rest : List (Way × Way)
        rest = keep apart (map (λ b. (s, b)) (gainings stops))

        go : (b : Bool) → best bid (cond (b && ltb (bid (s, lose)).0 held.0) (bid (s, lose)) held) rest ≡ best bid held (cond b ((s, lose) ∷ rest) rest)
        go true = refl
        go false = refl

    pub round_begin : (s : Way) (held next : ℕ × (Way × Way)) (free : Bool) (a : ℕ) → (a ≡ end_price (at rs) x s) × (free ≡ apart (s, lose))
        → next ≡ cond (free && ltb (a + 3) held.0) (a + 3, (s, way_of m m)) held
        → round_rest s next 0 ≡ round s held
    round_begin s held next free a (q, e) n =
        ap (λ o. round_rest s o 0) (n ∙ ap (λ (w : Way). cond (free && ltb (a + 3) held.0) (a + 3, (s, w)) held) (way_lose m)
        ∙ ap₂ (λ (b : Bool) (p : ℕ). cond (b && ltb (p + 3) held.0) (p + 3, (s, lose)) held) e q) ∙ round_start s held

    pub round_end : (s : Way) (held : ℕ × (Way × Way)) (g : ℕ) → m ≤ g → round_rest s held g ≡ held
    unfolding round_rest
    round_end s held g h = best_end (λ g. bid (s, gain g)) (λ g. stops g && apart (s, gain g)) held g m h

    pub round_turn : (s : Way) (held next : ℕ × (Way × Way)) (g : ℕ) (ok : Bool) (p : ℕ) → g < m → ok ≡ stops g && apart (s, gain g) → p ≡ (bid (s, gain g)).0
        → next ≡ cond (ok && ltb p held.0) (p, (s, way_of m g)) held → round_rest s next (g + 1) ≡ round_rest s held g
    unfolding round_rest
    round_turn s held next g ok p h e q n =
        ap (λ o. best (λ g. bid (s, gain g)) o rest)
        (n ∙ ap (λ (w : Way). cond (ok && ltb p held.0) (p, (s, w)) held) (way_gain m g h)
        ∙ ap₂ (λ (b : Bool) (p : ℕ). cond (b && ltb p held.0) (p, (s, gain g)) held) e q)
        ∙ sym (best_turn (λ g. bid (s, gain g)) (λ g. stops g && apart (s, gain g)) held g m h)
      where
        rest : List ℕ
        rest = keep (λ g. stops g && apart (s, gain g)) (range (g + 1) (m - (g + 1)))

    -- an edge that may not be gained at the end changes nothing
    pub round_past : (s : Way) (held : ℕ × (Way × Way)) (g : ℕ) → g < m → stops g ≡ false → round_rest s held (g + 1) ≡ round_rest s held g
    round_past s held g h e = round_turn s held held g false (bid (s, gain g)).0 h (sym (ap (λ b. b && apart (s, gain g)) e)) refl refl

    -- the code's test for a start c with an edge g gained at the end
    pub apart_way : (c g : ℕ) → apart (way_of m c, gain g) ≡ ltb c m || not (eqb (at sv g) (at sv x))
    apart_way c g = go (ltb c m)
      where
        go : (b : Bool) → apart (cond b (gain c) lose, gain g) ≡ b || not (eqb (at sv g) (at sv x))
        go true = refl
        go false = refl

    onward : (held : ℕ × (Way × Way)) (s : Way) (ss : List Way)
        → best bid held (keep apart (couples s ++ gather couples ss)) ≡ best bid (round s held) (keep apart (gather couples ss))
    unfolding round
    onward held s ss =
        ap (best bid held) (keep_append apart (couples s) (gather couples ss)) ∙ best_append bid held (keep apart (couples s)) (keep apart (gather couples ss))

    module _ (room_t : List Bool) where
      -- f may be gained at the start; at the end
      abbrev pub starts : ℕ → Bool
      starts = gainable sv st plan room_t (at sv x)

      unfoldable pub terminal_by : ℕ × (Way × Way)
      terminal_by = best bid (6, (lose, lose)) (keep apart (product (lose ∷ gainings starts) (lose ∷ gainings stops)))

      pub terminal_by_law : (ns nt : ℕ) (sh : List ℕ) (tied : List Bool) (quota_s quota_t : List ℕ)
          → ((f : ℕ) → f < m → flag room_s (at sv f) ≡ room? (flag plan) (surveyors (shown m ns nt sv st rs rt sh tied quota_s quota_t)) f)
          → ((f : ℕ) → f < m → flag room_t (at st f) ≡ room? (flag plan) (stands (shown m ns nt sv st rs rt sh tied quota_s quota_t)) f)
          → terminal (shown m ns nt sv st rs rt sh tied quota_s quota_t) (flag plan) x y ≡ terminal_by
      unfolding terminal terminal_by
      terminal_by_law ns nt sh tied quota_s quota_t hS hT = ap₂ (λ is bs. best bid (6, (lose, lose)) (keep apart (product (lose ∷ map gain is) (lose ∷ map gain bs))))
          (keep_cong (λ f. not (flag plan f) && joins? (flag plan) (surveyors G) (stands G) x f) starts (range 0 m)
          (λ f k. let (u, w) = ∈_range m 0 k in ap (λ r. not (flag plan f) && (eqb (at sv f) (at sv x) && r)) (sym (hT f (omega arith)))))
          (keep_cong (λ f. not (flag plan f) && joins? (flag plan) (stands G) (surveyors G) y f) stops (range 0 m)
          (λ f k. let (u, w) = ∈_range m 0 k in ap (λ r. not (flag plan f) && (eqb (at st f) (at st y) && r)) (sym (hS f (omega arith)))))
        where
          G : Instance
          G = shown m ns nt sv st rs rt sh tied quota_s quota_t

      -- ---- all starts: the start lost first, then the edges gained; while those from f on are still to come
      unfoldable pub terminal_rest : ℕ × (Way × Way) → ℕ → ℕ × (Way × Way)
      terminal_rest held f = best bid held (keep apart (gather couples (map gain (keep starts (range f (m - f))))))

      pub terminal_start : terminal_rest (round lose (6, (lose, lose))) 0 ≡ terminal_by
      unfolding terminal_rest terminal_by
      terminal_start =
          let e : m - 0 ≡ m = omega arith in
          ap (λ k. best bid (round lose (6, (lose, lose))) (keep apart (gather couples (map gain (keep starts (range 0 k)))))) e
          ∙ sym (onward (6, (lose, lose)) lose (gainings starts))

      pub terminal_end : (held : ℕ × (Way × Way)) (f : ℕ) → m ≤ f → terminal_rest held f ≡ held
      unfolding terminal_rest best
      terminal_end held f h = let e : m - f ≡ 0 = omega arith in ap (λ k. best bid held (keep apart (gather couples (map gain (keep starts (range f k)))))) e

      turn : (b : Bool) (held : ℕ × (Way × Way)) (f : ℕ) → f < m → starts f ≡ b → terminal_rest held f ≡ terminal_rest (cond b (round (gain f) held) held) (f + 1)
      unfolding terminal_rest
      turn b held f h e =
          let k : m - f ≡ suc (m - (f + 1)) = omega arith in
          let s : suc f ≡ f + 1 = omega arith in
          ap (λ n. best bid held (keep apart (gather couples (map gain (keep starts (range f n)))))) k
          ∙ ap
          (λ (b : Bool). best bid held
          (keep apart (gather couples (map gain (cond b (f ∷ keep starts (range (suc f) (m - (f + 1)))) (keep starts (range (suc f) (m - (f + 1)))))))))
          e
          ∙ go b
          ∙ ap (λ i. best bid (cond b (round (gain f) held) held) (keep apart (gather couples (map gain (keep starts (range i (m - (f + 1)))))))) s
        where
          ks : List ℕ
          ks = keep starts (range (suc f) (m - (f + 1)))

          go : (b : Bool)
              → best bid held (keep apart (gather couples (map gain (cond b (f ∷ ks) ks)))) ≡ best bid (cond b (round (gain f) held) held)
              (keep apart (gather couples (map gain ks)))
          go true = onward held (gain f) (map gain ks)
          go false = refl

      pub terminal_turn : (held : ℕ × (Way × Way)) (f : ℕ) → f < m → starts f ≡ true → terminal_rest held f ≡ terminal_rest (round (gain f) held) (f + 1)
      terminal_turn held f h e = turn true held f h e

      pub terminal_past : (held : ℕ × (Way × Way)) (f : ℕ) → f < m → starts f ≡ false → terminal_rest held f ≡ terminal_rest held (f + 1)
      terminal_past held f h e = turn false held f h e
