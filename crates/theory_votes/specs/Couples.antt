-- A pairing read as an exchange: the couples in which an edge comes that M lacks, and the edges that face an empty place. For the
-- converse of Lemma X.
use Rattle.std.specs.Prelude.{ℕ, ◌+◌, ◌≡◌, refl, ◌⊎◌, Bool, true, false, not, cond, ◌&&◌, ◌||◌, List, [], ◌∷◌, T, eqb}
use Rattle.std.proofs.Common.{arith, sym, ap, ◌∙◌, subst, inl, inr, ⊎_elim, eqb→eq}
use mathlib.Core.List.Memᴰ
use Rattle.lists.specs.Test.{pk}
use Rattle.lists.specs.Sum.{◌∈◌, sum}
use Rattle.model.specs.Instance.{Side}
use Rattle.model.specs.Vote.{Place, edge, empty, Pairing, places_at}
use Rattle.theory_votes.specs.Fair.{Fair, fair_faces, left_here, right_here}
use Rattle.theory_votes.specs.Exchange.{Couple}

module _ (M : ℕ → Bool) where
  abbrev pub couples_of : Pairing → List Couple
  couples_of [] = []
  couples_of ((p, edge f) ∷ r) = cond (M f) (couples_of r) ((p, f) ∷ couples_of r)
  couples_of ((p, empty) ∷ r) = couples_of r

  -- the same of a sum
  abbrev pub on_couple : (Couple → ℕ) → Place × Place → ℕ
  on_couple g (p, edge f) = pk (not (M f)) (g (p, f))
  on_couple g (p, empty) = 0

  pub couples_sum : (g : Couple → ℕ) (r : Pairing) → sum g (couples_of r) ≡ sum (on_couple g) r
  couples_sum g [] = refl
  couples_sum g ((p, edge f) ∷ r) = go (M f) (couples_sum g r)
    where
      go : (b : Bool) → sum g (couples_of r) ≡ sum (on_couple g) r
          → sum g (cond b (couples_of r) ((p, f) ∷ couples_of r)) ≡ pk (not b) (g (p, f)) + sum (on_couple g) r
      go true h = omega arith
      go false h = omega arith
  couples_sum g ((p, empty) ∷ r) = omega (arith, couples_sum g r)

  pub couples_∈ : (r : Pairing) (c : Couple) → c ∈ couples_of r → ◌∈◌ {A = Place × Place} (c.0, edge c.1) r
  couples_∈ [] c k = absurd (Memᴰ.not-nil k)
  couples_∈ ((p, edge f) ∷ r) c k = go (M f) (couples_∈ r c) k
    where
      hd : c ∈ ((p, f) ∷ couples_of r) → (c ∈ couples_of r → ◌∈◌ {A = Place × Place} (c.0, edge c.1) r)
          → ◌∈◌ {A = Place × Place} (c.0, edge c.1) ((p, edge f) ∷ r)
      hd (Memᴰ.head e) ih = Memᴰ.head (ap (λ d. (d.0, edge d.1)) e)
      hd (Memᴰ.tail j) ih = Memᴰ.tail (ih j)

      go : (b : Bool) → (c ∈ couples_of r → ◌∈◌ {A = Place × Place} (c.0, edge c.1) r) → c ∈ cond b (couples_of r) ((p, f) ∷ couples_of r)
          → ◌∈◌ {A = Place × Place} (c.0, edge c.1) ((p, edge f) ∷ r)
      go true ih j = Memᴰ.tail (ih j)
      go false ih j = hd j ih
  couples_∈ ((p, empty) ∷ r) c k = Memᴰ.tail (couples_∈ r c k)

abbrev pub losses_of : Pairing → List ℕ
losses_of [] = []
losses_of ((edge l, edge f) ∷ r) = losses_of r
losses_of ((edge l, empty) ∷ r) = l ∷ losses_of r
losses_of ((empty, q) ∷ r) = losses_of r

abbrev pub on_loss : (ℕ → ℕ) → Place × Place → ℕ
on_loss h (edge l, edge f) = 0
on_loss h (edge l, empty) = h l
on_loss h (empty, q) = 0

pub losses_sum : (h : ℕ → ℕ) (r : Pairing) → sum h (losses_of r) ≡ sum (on_loss h) r
losses_sum h [] = refl
losses_sum h ((edge l, edge f) ∷ r) = omega (arith, losses_sum h r)
losses_sum h ((edge l, empty) ∷ r) = omega (arith, losses_sum h r)
losses_sum h ((empty, q) ∷ r) = omega (arith, losses_sum h r)

pub losses_∈ : (r : Pairing) (l : ℕ) → l ∈ losses_of r → ◌∈◌ {A = Place × Place} (edge l, empty) r
losses_∈ [] l k = absurd (Memᴰ.not-nil k)
losses_∈ ((edge d, edge f) ∷ r) l k = Memᴰ.tail (losses_∈ r l k)
losses_∈ ((edge d, empty) ∷ r) l (Memᴰ.head e) = Memᴰ.head (ap (λ z. (edge z, empty)) e)
losses_∈ ((edge d, empty) ∷ r) l (Memᴰ.tail k) = Memᴰ.tail (losses_∈ r l k)
losses_∈ ((empty, q) ∷ r) l k = Memᴰ.tail (losses_∈ r l k)

-- ---- the five kinds of couples in a valid pairing at a node
pub data Kind (M N : ℕ → Bool) : Place × Place → Type 0 where
  shares : {d f : ℕ} → d ≡ f → M f ≡ true → N d ≡ true → Kind M N (edge d, edge f)
  swaps : {d f : ℕ} → M f ≡ false → N d ≡ false → Kind M N (edge d, edge f)
  loses : {d : ℕ} → N d ≡ false → Kind M N (edge d, empty)
  gets : {f : ℕ} → M f ≡ false → Kind M N (empty, edge f)
  void : Kind M N (empty, empty)

-- what `faces` says
facing : (s a b : Bool) → T (s || not (a || b)) → T s ⊎ ((a ≡ false) × (b ≡ false))
facing true a b t = inl tt
facing false true b t = absurd t
facing false false true t = absurd t
facing false false false t = inr (refl, refl)

-- one of two fails, and the other does not
left_fails : (x y : Bool) → y ≡ true → (x && y) ≡ false → x ≡ false
left_fails true y h q = absurd (subst T (sym h ∙ q) tt)
left_fails false y h q = refl

right_fails : (x y : Bool) → x ≡ true → (x && y) ≡ false → y ≡ false
right_fails x y h q = ap (λ b. b && y) (sym h) ∙ q

module _ (K : Side) (M N : ℕ → Bool) (v : ℕ) (r : Pairing) (fair : Fair M N (places_at K M v) (places_at K N v) r) where
  in_m : (d : ℕ) (q : Place) → ◌∈◌ {A = Place × Place} (edge d, q) r → M d ≡ true
  in_m d q k = (left_here K M N v r fair (edge d, q) k d refl).0

  in_N : (p : Place) (f : ℕ) → ◌∈◌ {A = Place × Place} (p, edge f) r → N f ≡ true
  in_N p f k = (right_here K M N v r fair (p, edge f) k f refl).0

  -- each couple of a pairing that obeys the rules is of one of these kinds
  pub kind : (c : Place × Place) → c ∈ r → Kind M N c
  kind (edge d, edge f) k = ⊎_elim
      (λ t. let p = eqb→eq d f t in shares p (ap M (sym p) ∙ in_m d (edge f) k) (ap N p ∙ in_N (edge d) f k))
      (λ (p, q). swaps (left_fails (M f) (N f) (in_N (edge d) f k) q) (right_fails (M d) (N d) (in_m d (edge f) k) p))
      (facing (eqb d f) (M d && N d) (M f && N f) (fair_faces M N (places_at K M v) (places_at K N v) r fair (edge d, edge f) k))
  kind (edge d, empty) k = ⊎_elim (λ t. absurd t) (λ (p, q). loses (right_fails (M d) (N d) (in_m d empty k) p))
      (facing false (M d && N d) false (fair_faces M N (places_at K M v) (places_at K N v) r fair (edge d, empty) k))
  kind (empty, edge f) k = ⊎_elim (λ t. absurd t) (λ (p, q). gets (left_fails (M f) (N f) (in_N empty f k) q))
      (facing false false (M f && N f) (fair_faces M N (places_at K M v) (places_at K N v) r fair (empty, edge f) k))
  kind (empty, empty) k = void
