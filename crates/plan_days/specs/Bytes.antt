-- Entry by entry into arrays and buffers: the ends of a plan's entries, and the sheet's bytes.
use Rattle.std.specs.Prelude.{ℕ, suc, ◌+◌, ◌≤◌, ◌<◌, ◌≡◌, List, [], ◌∷◌, ◌++◌, map, length, set, take, drop, eqb}
use Rattle.std.proofs.Common.{arith, add-one, sym, ap, ap₂, ◌∙◌, subst, take-suc, drop-cons, length-take-le, get_or-take, get_or-set_same, get_or-set_other}
use Rattle.std.proofs.Math.Decide.{ℕ_discrete, dec_lt}
use Rattle.std.proofs.Math.Path.{fun_ext}
use Rattle.std.proofs.Math.Logic.{by_cases}
use Rattle.std.proofs.lemmas.List.{map-append, length-map, set_at}
use Rattle.std.proofs.Math.ListN.{get_or-eq_default}
use Rattle.std.proofs.Math.Seq.{append_snoc}
use Rattle.lists.specs.Sum.{range, count, count_cong}
use Rattle.lists.specs.Ranges.{map_at}
use Rattle.arrays.specs.ArrayInstance.{at}
use Rattle.arrays.specs.Kept.{front_is}
use Rattle.arrays.specs.Passes.{Low}
use Rattle.model.specs.Limits.{day_size, last_day}
use Rattle.theory_days.specs.Spread.{spread}
use Rattle.theory_days.specs.Sheets.{spread_by}
use Rattle.plan_days.specs.DayByDay.{spread_in, spread_is, spread_length}

-- ---- ends
-- an array has the ends of the first n entries of a list in front, and 0 behind them
abbrev pub Ends : (n : ℕ) (es end r : List ℕ) → Type 0
Ends n es end r = (j : ℕ) → at r j ≡ at (map (at end) (take n es)) j

-- the same, place by place
abbrev pub EndsAt : (n : ℕ) (es end r : List ℕ) → Type 0
EndsAt n es end r = (j : ℕ) → (j < n → at r j ≡ at end (at es j)) × (n ≤ j → at r j ≡ 0)

pub ends_next : (es end r : List ℕ) (k : ℕ) → k < length r → EndsAt k es end r → EndsAt (k + 1) es end (set r k (at end (at es k)))
ends_next es end r k l h j = by_cases (ℕ_discrete j k)
    (λ q. (
      (λ s. ap (at (set r k (at end (at es k)))) q ∙ get_or-set_same r k (at end (at es k)) 0 l ∙ ap (λ z. at end (at es z)) (sym q)),
      λ s. absurd
          (omega arith),
    ))
    (λ d. ((λ s. get_or-set_other r k j (at end (at es k)) 0 d ∙ (h j).0 (omega arith)), λ s. get_or-set_other r k j (at end (at es k)) 0 d ∙ (h j).1 (omega arith)))

pub ends_are : (n : ℕ) (es end r : List ℕ) → n ≤ length es → EndsAt n es end r → Ends n es end r
ends_are n es end r l h j = by_cases (dec_lt j n)
    (λ s. (h j).0 s ∙ ap (at end) (sym (get_or-take n es j 0 s)) ∙ sym (map_at (at end) (take n es) j 0 0 (omega (arith, length-take-le n es l))))
    (λ s. (h j).1 (omega arith)
    ∙ sym (get_or-eq_default (map (at end) (take n es)) 0 (omega (arith, length-map (take n es) (at end), length-take-le n es l))))

module _ (n : ℕ) (es end r : List ℕ) (l : n ≤ length es) (E : Ends n es end r) where
  own : (j : ℕ) → j < n → at r j ≡ at end (at es j)
  own j h = E j ∙ map_at (at end) (take n es) j 0 0 (omega (arith, length-take-le n es l)) ∙ ap (at end) (get_or-take n es j 0 h)

  pub ends_low : (k : ℕ) → ((j : ℕ) → j < n → at end (at es j) < k) → Low n r k
  ends_low k low j h = subst (λ z. z < k) (sym (own j h)) (low j h)

  -- as many entries at a node as have it for their end
  pub ends_few : (k : ℕ) → ((v : ℕ) → count (λ j. eqb (at end (at es j)) v) n ≤ k) → (v : ℕ) → count (λ j. eqb (at r j) v) n ≤ k
  ends_few k few v = omega (arith, few v, count_cong (λ j. eqb (at r j) v) (λ j. eqb (at end (at es j)) v) n (λ j h. ap (λ z. eqb z v) (own j h)))

-- ---- bytes
-- one more day is written
pub put_next : (day out₀ out : List ℕ) (j : ℕ) → j < length day → j < length out₀ → out ≡ map suc (take j day) ++ drop j out₀
    → set out j (at day j + 1) ≡ map suc (take (j + 1) day) ++ drop (j + 1) out₀
put_next day out₀ out j l k e =
    ap₂ (λ x y. set x j y) (e ∙ ap (λ z. map suc (take j day) ++ z) (drop-cons out₀ j 0 k)) (add-one (at day j))
    ∙ set_at (map suc (take j day)) (at out₀ j) (drop (suc j) out₀) (suc (at day j)) j (length-map (take j day) suc ∙ length-take-le j day (omega arith))
    ∙ sym (append_snoc (map suc (take j day)) (suc (at day j)) (drop (suc j) out₀))
    ∙ ap (λ z. z ++ drop (suc j) out₀) (sym (map-append suc (take j day) (at day j ∷ [])) ∙ ap (map suc) (sym (take-suc day j 0 l)))
    ∙ ap (λ z. map suc (take z day) ++ drop z out₀) (sym (add-one j))

-- the front of the array, one up, is the sheet of the first n entries of es
pub bytes_are : (n : ℕ) (sv st es s t : List ℕ) → n ≤ length es → n ≤ day_size → Ends n es sv s → Ends n es st t
    → map suc (take n (spread_in n s t)) ≡ spread_by (at sv) (at st) (take n es)
unfolding spread_by
bytes_are n sv st es s t l few hs ht =
    ap (map suc)
    (front_is (spread_in n s t) n (omega (arith, spread_length s t n))
    ∙ ap (λ c. map c (range 0 n)) (spread_is s t n few ∙ ap₂ (λ a b. spread a b last_day n) (fun_ext hs) (fun_ext ht)))
    ∙ ap (λ k. map suc (map (spread (at (map (at sv) (take n es))) (at (map (at st) (take n es))) last_day k) (range 0 k))) (sym (length-take-le n es l))
