-- A file of a route and a roster as the code reads it: the route's count, the numbers behind it, and the roster behind them; and two parts
-- written one behind the other.
use Rattle.std.specs.Prelude.{Result}
use Rattle.std.specs.declared.result.Result.TheVariants.{Ok, Err}
use Rattle.std.specs.Prelude.{ℕ, zero, suc, ◌+◌, ◌-◌, ◌≤◌, ◌<◌, ◌≡◌, refl, ◌≢◌, Bool, cond, List, [], ◌∷◌, ◌++◌, length, take, drop, get_or}
use Rattle.std.proofs.Common.{arith, sym, ap, ap₂, ◌∙◌, append_assoc, append-nil, length-take, length-drop, length-append, take-append-drop, take_all, take_at, drop_at, drop-drop, lt-ltb, le-ltb}
use Rattle.std.proofs.Math.Nat.{min-eq_left}
use Rattle.std.proofs.Math.Seq.{take-length, drop-length}
use Rattle.model.specs.Limits.{node_limit}
use Rattle.model.specs.Reading.{accepted, refused, ◌then◌, refuse_if, byte, read_each}
use Rattle.model.specs.Roster.{Roster}
use Rattle.model.specs.RosterFile.{read_many, read_roster}
use Rattle.model_files.specs.Routes.{read_route}
use Rattle.theory_renamed.specs.StoredFiles.{route_forth}
use Rattle.answers.specs.declared.Refusal.{Refusal}
use Rattle.answers.specs.declared.Refusal.TheVariants.{CutShort, TooMany}
use Rattle.answers.specs.RefusalCases.{number_of}
use Rattle.roster_parts.specs.declared.RosterBytes.{RosterBytes}
use Rattle.roster_parts.specs.Growth.{Holds}
use Rattle.roster_routes.specs.Reordered.{reordered_bytes}

-- a route of k numbers is read, and behind it is what the roster is read from
pub record RouteAt (f : List ℕ) (k : ℕ) : Type 0 where
  pub few : k ≤ node_limit
  pub long : k + 1 ≤ length f
  pub read : read_route f ≡ accepted (take k (drop 1 f), drop (k + 1) f)

-- the count of a route, or the refusal that its reading meets
abbrev pub HeadRead : List ℕ → Result ℕ Refusal → Type 0
HeadRead f (Ok k) = RouteAt f k
HeadRead f (Err n) = read_route f ≡ refused (number_of n)

abbrev pub Behind : (k : ℕ) → List ℕ → Type 0
Behind k f = RouteAt f k × ((r : Roster) × (read_roster (drop (k + 1) f) ≡ accepted r))

-- ---- by the first byte
pub head_none : (f : List ℕ) → length f ≡ 0 → HeadRead f (Err CutShort)
head_none [] e = refl
head_none (x ∷ f) e = absurd (let z : ⊥ = omega arith in z)

numbers_cut : (n : ℕ) (bs : List ℕ) → length bs < n → read_many byte n bs ≡ refused 1
unfolding read_each
numbers_cut zero bs h = absurd (let z : ⊥ = omega arith in z)
numbers_cut (suc n) [] h = refl
numbers_cut (suc n) (x ∷ bs) h = ap (λ r. r then (λ xs rest. accepted (x ∷ xs, rest))) (numbers_cut n bs (omega arith))

module _ (f : List ℕ) (some : length f ≢ 0) where
  pub head_many : node_limit < get_or f 0 0 → HeadRead f (Err TooMany)
  head_many h = go f some h
    where
      go : (f : List ℕ) → length f ≢ 0 → node_limit < get_or f 0 0 → read_route f ≡ refused 2
      go [] s h = absurd (s refl)
      go (k ∷ bs) s h = ap (λ b. refuse_if b 2 (accepted (k, bs)) then read_many byte) (lt-ltb node_limit k h)

  pub head_cut : get_or f 0 0 ≤ node_limit → length f ≤ get_or f 0 0 → HeadRead f (Err CutShort)
  head_cut h l = go f some h l
    where
      go : (f : List ℕ) → length f ≢ 0 → get_or f 0 0 ≤ node_limit → length f ≤ get_or f 0 0 → read_route f ≡ refused 1
      go [] s h l = absurd (s refl)
      go (k ∷ bs) s h l = ap (λ b. refuse_if b 2 (accepted (k, bs)) then read_many byte) (le-ltb node_limit k h) ∙ numbers_cut k bs (omega arith)

  pub head_whole : get_or f 0 0 ≤ node_limit → get_or f 0 0 < length f → HeadRead f (Ok (get_or f 0 0))
  head_whole h l = go f some h l
    where
      go : (f : List ℕ) → length f ≢ 0 → get_or f 0 0 ≤ node_limit → get_or f 0 0 < length f → RouteAt f (get_or f 0 0)
      go [] s h l = absurd (s refl)
      go (k ∷ bs) s h l =
          let n : length (take k bs) ≡ k = length-take k bs ∙ min-eq_left (omega arith) in
          let one : k + 1 ≡ suc k = omega arith in
          record {
            few = h;
            long = omega arith;
            read = ap read_route (ap₂ ◌∷◌ (sym n) (sym (take-append-drop k bs))) ∙ route_forth (take k bs) (drop k bs) (omega (arith, n))
                ∙ ap (λ j. accepted (take k bs, drop j (k ∷ bs))) (sym one);
          }

-- ---- the roster by the route, or by its way back
abbrev pub TurnedBy : (back : Bool) → List ℕ → (ns nt : ℕ) → (places numbers : List ℕ) → RosterBytes → Type 0
TurnedBy back f ns nt places numbers c = Holds (reordered_bytes f ns nt (cond back numbers places) (cond back places numbers)) c

-- ---- the parts written
abbrev pub Fits : List ℕ → ℕ → List ℕ → List ℕ → Type 0
Fits f k roster o = length (take k f) + length roster ≤ length o

abbrev pub both : List ℕ → ℕ → List ℕ → List ℕ
both f k roster = take k f ++ roster

pub record WrittenBoth (f : List ℕ) (k : ℕ) (roster o : List ℕ) (r : ℕ) (o' : List ℕ) : Type 0 where
  pub count : r ≡ length (both f k roster)
  pub bytes : o' ≡ take (length (both f k roster)) (both f k roster) ++ drop (length (both f k roster)) o

-- the first copied to the front of a buffer, and the second to what is behind it, which was lent as a part
module _ (x y o : List ℕ) (room : length x + length y ≤ length o) (a : ℕ) (da : a ≡ length x) (mid : List ℕ)
    (dm : mid ≡ take (length x) x ++ drop (length x) o) where
  mid_is : mid ≡ x ++ drop a o
  mid_is = dm ∙ ap₂ (λ z n. z ++ drop n o) (take-length x) (sym da)

  front_is : take a mid ≡ x
  front_is = ap (take a) mid_is ∙ take_at x (drop a o) a (sym da)

  rest_is : drop a mid ≡ drop a o
  rest_is = ap (drop a) mid_is ∙ drop_at x (drop a o) a (sym da)

  pub mid_length : length mid ≡ length o
  mid_length = ap length mid_is ∙ length-append x (drop a o) ∙ omega (arith, length-drop a o)

  pub part_is : take (length mid - a) (drop a mid) ≡ drop a o
  part_is = take_all (length mid - a) (drop a mid) (omega (arith, length-drop a mid)) ∙ rest_is

  both_put : (last : List ℕ) → last ≡ take (length y) y ++ drop (length y) (take (length mid - a) (drop a mid))
      → take a mid ++ (last ++ drop (length mid - a) (drop a mid)) ≡ take (length (x ++ y)) (x ++ y) ++ drop (length (x ++ y)) o
  both_put last dl =
      let l : a + length y ≡ length (x ++ y) = omega (arith, length-append x y) in
      ap₂ (λ z w. z ++ (last ++ w)) front_is (ap (λ k. drop k (drop a mid)) (sym (length-drop a mid)) ∙ drop-length (drop a mid))
      ∙ ap (λ z. x ++ z) (append-nil last ∙ dl ∙ ap₂ (λ z w. z ++ drop (length y) w) (take-length y) part_is ∙ ap (λ z. y ++ z) (drop-drop (length y) a o))
      ∙ sym (append_assoc x y (drop (a + length y) o))
      ∙ ap₂ (λ z k. z ++ drop k o) (sym (take-length (x ++ y))) l

  pub written_both : (f : List ℕ) (k : ℕ) → x ≡ take k f → (b : ℕ) → b ≡ length y → (last : List ℕ)
      → last ≡ take (length y) y ++ drop (length y) (take (length mid - a) (drop a mid))
      → WrittenBoth f k y o (a + b) (take a mid ++ (last ++ drop (length mid - a) (drop a mid)))
  written_both f k ex b db last dl =
      let e : x ++ y ≡ both f k y = ap (λ z. z ++ y) ex in
      let c : a + b ≡ length (x ++ y) = omega (arith, length-append x y) in
      record { count = c ∙ ap length e; bytes = both_put last dl ∙ ap (λ z. take (length z) z ++ drop (length z) o) e }
