-- Where the offers stand after one more, and up to which surveyor they stand as before.
use Rattle.std.specs.Prelude.{ℕ, ◌+◌, ◌≤◌, ◌<◌, ◌≡◌, refl, Bool, true, false, List, length, set, ltb, leb}
use Rattle.std.proofs.Common.{arith, ◌∙◌, get_or-set_other, lt-ltb, le-ltb, le-leb}
use Rattle.std.proofs.Math.Path.{sym, ap}
use Rattle.std.proofs.Math.Bool.{cond}
use Rattle.std.proofs.lemmas.Bool.{lt-leb}
use Rattle.model.specs.Limits.{node_limit}
use Rattle.arrays.specs.ArrayInstance.{at, flag}
use Rattle.offers.specs.declared.Standing.{Standing}

-- the three arrays
abbrev pub standing : (next kept : List ℕ) (held : List Bool) → Standing
standing next kept held = record { next = next; kept = kept; held = held }

abbrev pub Sized : Standing → Type 0
Sized o = (length o.next ≡ node_limit) × (length o.kept ≡ node_limit) × (length o.held ≡ node_limit)

module _ (sv st rs : List ℕ) (o : Standing) (e : ℕ) where
  -- the stand had none: it keeps e
  abbrev pub kept_first : Standing
  kept_first = record { next = o.next; kept = set o.kept (at st e) e; held = set o.held (at sv e) true }

  -- it keeps e instead of d, whose surveyor goes on behind d
  abbrev pub kept_instead : ℕ → Standing
  kept_instead d = record {
    next = set o.next (at sv d) (at rs d + 1);
    kept = set o.kept (at st e) e;
    held = set (set o.held (at sv d) false) (at sv e) true;
  }

  -- it turns e away, whose surveyor goes on behind e
  abbrev pub turned_away : Standing
  turned_away = record { next = set o.next (at sv e) (at rs e + 1); kept = o.kept; held = o.held }

unfoldable pub turn_of : (m : ℕ) (sv st rs rt : List ℕ) (o : Standing) (e : ℕ) → Standing
turn_of m sv st rs rt o e = let d = at o.kept (at st e) in
    cond (leb m d) (kept_first sv st rs o e) (cond (ltb (at rt e) (at rt d)) (kept_instead sv st rs o e d) (turned_away sv st rs o e))

-- ---- the three cases
module _ (m : ℕ) (sv st rs rt : List ℕ) (o : Standing) (e : ℕ) where
  abbrev kept_there : ℕ
  kept_there = at o.kept (at st e)

  pub turn_first : m ≤ kept_there → kept_first sv st rs o e ≡ turn_of m sv st rs rt o e
  unfolding turn_of
  turn_first h = sym (ap (λ b. cond b (kept_first sv st rs o e)
      (cond (ltb (at rt e) (at rt kept_there)) (kept_instead sv st rs o e kept_there) (turned_away sv st rs o e))) (le-leb m kept_there h))

  pub turn_instead : kept_there < m → at rt e < at rt kept_there → kept_instead sv st rs o e kept_there ≡ turn_of m sv st rs rt o e
  unfolding turn_of
  turn_instead h k = sym (ap (λ b. cond b (kept_first sv st rs o e)
      (cond (ltb (at rt e) (at rt kept_there)) (kept_instead sv st rs o e kept_there) (turned_away sv st rs o e))) (lt-leb m kept_there h)
      ∙ ap (λ b. cond b (kept_instead sv st rs o e kept_there) (turned_away sv st rs o e)) (lt-ltb (at rt e) (at rt kept_there) k))

  pub turn_away : kept_there < m → at rt kept_there ≤ at rt e → turned_away sv st rs o e ≡ turn_of m sv st rs rt o e
  unfolding turn_of
  turn_away h k = sym (ap (λ b. cond b (kept_first sv st rs o e)
      (cond (ltb (at rt e) (at rt kept_there)) (kept_instead sv st rs o e kept_there) (turned_away sv st rs o e))) (lt-leb m kept_there h)
      ∙ ap (λ b. cond b (kept_instead sv st rs o e kept_there) (turned_away sv st rs o e)) (le-ltb (at rt e) (at rt kept_there) k))

-- ---- the surveyors before r stand as before
abbrev pub Same : (o p : Standing) (r : ℕ) → Type 0
Same o p r = (i : ℕ) → i < r → (at p.next i ≡ at o.next i) × (flag p.held i ≡ flag o.held i)

-- p is where the offers stand after e; r is not behind the surveyor of e, and nobody before r was touched
pub record Turned (m : ℕ) (sv st rs rt : List ℕ) (o : Standing) (e : ℕ) (p : Standing) (r : ℕ) : Type 0 where
  pub after : p ≡ turn_of m sv st rs rt o e
  pub lowest : r ≤ at sv e
  pub same : Same o p r

module _ (sv st rs : List ℕ) (o : Standing) (e : ℕ) where
  first_same : Same o (kept_first sv st rs o e) (at sv e)
  first_same i l = (refl, get_or-set_other o.held (at sv e) i true false (λ q. let n : ⊥ = omega arith in n))

  instead_same : (d r : ℕ) → r ≤ at sv e → r ≤ at sv d → Same o (kept_instead sv st rs o e d) r
  instead_same d r h k i l = (
    get_or-set_other o.next (at sv d) i (at rs d + 1) 0 (λ q. let n : ⊥ = omega arith in n),
    get_or-set_other (set o.held (at sv d) false) (at sv e) i true false (λ q. let n : ⊥ = omega arith in n)
        ∙ get_or-set_other o.held (at sv d) i false false (λ q. let n : ⊥ = omega arith in n),
  )

  away_same : Same o (turned_away sv st rs o e) (at sv e)
  away_same i l = (get_or-set_other o.next (at sv e) i (at rs e + 1) 0 (λ q. let n : ⊥ = omega arith in n), refl)

-- ---- so each case is the offer's turn; r is the first of the surveyors that are touched
module _ {m : ℕ} {sv st rs rt : List ℕ} (o : Standing) (e : ℕ) where
  pub turned_first : m ≤ at o.kept (at st e) → Turned m sv st rs rt o e (kept_first sv st rs o e) (at sv e)
  turned_first h = record { after = turn_first m sv st rs rt o e h; lowest = omega arith; same = first_same sv st rs o e }

  pub turned_instead : {r : ℕ} → let d = at o.kept (at st e) in
      d < m → at rt e < at rt d → r ≤ at sv e → r ≤ at sv d → Turned m sv st rs rt o e (kept_instead sv st rs o e d) r
  turned_instead {r} h k a b = record {
    after = turn_instead m sv st rs rt o e h k;
    lowest = a;
    same = instead_same sv st rs o e (at o.kept (at st e)) r a b;
  }

  pub turned_away_law : let d = at o.kept (at st e) in d < m → at rt d ≤ at rt e → Turned m sv st rs rt o e (turned_away sv st rs o e) (at sv e)
  turned_away_law h k = record { after = turn_away m sv st rs rt o e h k; lowest = omega arith; same = away_same sv st rs o e }
