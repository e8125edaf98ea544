-- The model's order of rank pairs and of their lists (Facing), by keys: the list put in order depends on its pairs alone, and the smallest of
-- some lists is in them and not greater than any.
use Rattle.std.specs.Prelude.{ℕ, ◌+◌, ◌≤◌, ◌<◌, ◌≡◌, refl, Bool, true, false, cond, not, ◌&&◌, ◌||◌, List, [], ◌∷◌, length, T, ltb, eqb}
use Rattle.std.proofs.Common.{arith, sym, ap, ap₂, ◌∙◌, subst, inl, inr, ⊎_elim, ltb→lt, lt→ltb, nltb→le, eqb→eq, lt-ltb, le-ltb}
use Rattle.std.proofs.Math.Decide.{dec_lt}
use Rattle.std.proofs.Math.Logic.{by_cases}
use mathlib.Core.List.Memᴰ
use Rattle.lists.specs.Test.{bool_eq, by-test, by_bool, if-ind, and_l, and_r, and_i, or_l, or_r, or_case, nor_l, nor_r, nand_r, eq→eqb, eqb_yes}
use Rattle.lists.specs.Test.{bit, bit_pos, true_t, false_t}
use Rattle.lists.specs.Sum.{◌∈◌, sum, sum_pos, sum_length}
use Rattle.model.specs.Facing.{sooner, put_in, in_order, smaller, smallest}
use Rattle.theory_votes.specs.Sorted.{Sorted}
use Rattle.theory_votes.specs.RankPairs.{key, put_key, by_key, LexLe, lex_refl, lex_trans}

-- other ranks below 64
abbrev pub Low : List (ℕ × ℕ) → Type 0
Low cs = (c : ℕ × ℕ) → c ∈ cs → c.1 < 64

sooner_key : (c d : ℕ × ℕ) → c.1 < 64 → d.1 < 64 → sooner c d ≡ ltb (key c) (key d)
sooner_key (a, b) (c, d) h k = bool_eq (ltb a c || (eqb a c && ltb b d)) (ltb (key (a, b)) (key (c, d)))
    (λ t. ⊎_elim
    (λ s. lt→ltb (key (a, b)) (key (c, d)) (omega (arith, ltb→lt a c s)))
    (λ s. lt→ltb (key (a, b)) (key (c, d)) (omega (arith, eqb→eq a c (and_l (eqb a c) (ltb b d) s), ltb→lt b d (and_r (eqb a c) (ltb b d) s))))
    (or_case (ltb a c) (eqb a c && ltb b d) t))
    (λ t. by_cases (dec_lt a c)
    (λ l. or_l (ltb a c) (eqb a c && ltb b d) (lt→ltb a c l))
    (λ n. or_r (ltb a c) (eqb a c && ltb b d) (and_i (eqb a c) (ltb b d)
    (eq→eqb a c (omega (arith, ltb→lt (key (a, b)) (key (c, d)) t))) (lt→ltb b d (omega (arith, ltb→lt (key (a, b)) (key (c, d)) t))))))

-- ---- put in order
pub sum_put : (φ : ℕ × ℕ → ℕ) (c : ℕ × ℕ) (ds : List (ℕ × ℕ)) → sum φ (put_key c ds) ≡ φ c + sum φ ds
sum_put φ c [] = refl
sum_put φ c (d ∷ ds) = if-ind (λ z. sum φ z ≡ φ c + (φ d + sum φ ds)) (ltb (key d) (key c)) (λ t. omega (arith, sum_put φ c ds)) (λ t. refl)

pub sum_by_key : (φ : ℕ × ℕ → ℕ) (cs : List (ℕ × ℕ)) → sum φ (by_key cs) ≡ sum φ cs
sum_by_key φ [] = refl
sum_by_key φ (c ∷ cs) = omega (arith, sum_put φ c (by_key cs), sum_by_key φ cs)

pub by_key_length : (cs : List (ℕ × ℕ)) → length (by_key cs) ≡ length cs
by_key_length cs = sum_length (by_key cs) ∙ sum_by_key (λ c. 1) cs ∙ sym (sum_length cs)

put_∈ : (x c : ℕ × ℕ) (ds : List (ℕ × ℕ)) → x ∈ put_key c ds → x ∈ (c ∷ ds)
put_∈ x c [] = λ m. m
put_∈ x c (d ∷ ds) = if-ind (λ z. x ∈ z → x ∈ (c ∷ d ∷ ds)) (ltb (key d) (key c)) (λ t m. go (put_∈ x c ds) m) (λ t m. m)
  where
    go : (x ∈ put_key c ds → x ∈ (c ∷ ds)) → x ∈ (d ∷ put_key c ds) → x ∈ (c ∷ d ∷ ds)
    go ih (Memᴰ.head e) = Memᴰ.tail (Memᴰ.head e)
    go ih (Memᴰ.tail m) = back (ih m)
      where
        back : x ∈ (c ∷ ds) → x ∈ (c ∷ d ∷ ds)
        back (Memᴰ.head e) = Memᴰ.head e
        back (Memᴰ.tail m) = Memᴰ.tail (Memᴰ.tail m)

pub by_key_∈ : (x : ℕ × ℕ) (cs : List (ℕ × ℕ)) → x ∈ by_key cs → x ∈ cs
by_key_∈ x [] m = m
by_key_∈ x (c ∷ cs) m = go (by_key_∈ x cs) (put_∈ x c (by_key cs) m)
  where
    go : (x ∈ by_key cs → x ∈ cs) → x ∈ (c ∷ by_key cs) → x ∈ (c ∷ cs)
    go ih (Memᴰ.head e) = Memᴰ.head e
    go ih (Memᴰ.tail m) = Memᴰ.tail (ih m)

put_same : (c : ℕ × ℕ) (ds : List (ℕ × ℕ)) → c.1 < 64 → Low ds → put_in c ds ≡ put_key c ds
put_same c [] h l = refl
put_same c (d ∷ ds) h l = ap (λ z. cond (sooner d c) (d ∷ z) (c ∷ d ∷ ds)) (put_same c ds h (λ x m. l x (Memᴰ.tail m)))
    ∙ ap (λ b. cond b (d ∷ put_key c ds) (c ∷ d ∷ ds)) (sooner_key d c (l d (Memᴰ.head refl)) h)

pub order_is : (cs : List (ℕ × ℕ)) → Low cs → in_order cs ≡ by_key cs
order_is [] l = refl
order_is (c ∷ cs) l = ap (put_in c) (order_is cs (λ x m. l x (Memᴰ.tail m)))
    ∙ put_same c (by_key cs) (l c (Memᴰ.head refl)) (λ x m. l x (Memᴰ.tail (by_key_∈ x cs m)))

sorted_put : (c : ℕ × ℕ) (ds : List (ℕ × ℕ)) → Sorted key ds → Sorted key (put_key c ds)
sorted_put c [] s = ((λ q m. absurd (Memᴰ.not-nil m)), tt)
sorted_put c (d ∷ ds) s = if-ind (Sorted key) (ltb (key d) (key c))
    (λ t. ((λ q m. after t q (put_∈ q c ds m)), sorted_put c ds s.1))
    (λ t. ((λ q m. before t q m), s))
  where
    after : T (ltb (key d) (key c)) → (q : ℕ × ℕ) → q ∈ (c ∷ ds) → key d ≤ key q
    after t q (Memᴰ.head e) = omega (arith, ltb→lt (key d) (key c) t, ap key e)
    after t q (Memᴰ.tail m) = s.0 q m

    before : T (not (ltb (key d) (key c))) → (q : ℕ × ℕ) → q ∈ (d ∷ ds) → key c ≤ key q
    before t q (Memᴰ.head e) = omega (arith, nltb→le (key d) (key c) t, ap key e)
    before t q (Memᴰ.tail m) = omega (arith, nltb→le (key d) (key c) t, s.0 q m)

pub sorted_by_key : (cs : List (ℕ × ℕ)) → Sorted key (by_key cs)
sorted_by_key [] = tt
sorted_by_key (c ∷ cs) = sorted_put c (by_key cs) (sorted_by_key cs)

-- ---- pairs with the same key are one
key_same : (c d : ℕ × ℕ) → c.1 < 64 → d.1 < 64 → key c ≡ key d → c ≡ d
key_same (a, b) (c, d) h k e =
    let p : a ≡ c = omega arith in
    let q : b ≡ d = omega arith in
    ap₂ (λ x y. (x, y)) p q

is : ℕ × ℕ → ℕ × ℕ → ℕ
is d c = bit (eqb c.0 d.0 && eqb c.1 d.1)

is_self : (d : ℕ × ℕ) → is d d ≡ 1
unfolding is
is_self d = ap₂ (λ x y. bit (x && y)) (eqb_yes d.0 d.0 refl) (eqb_yes d.1 d.1 refl)

is_key : (d c : ℕ × ℕ) → 0 < is d c → key c ≡ key d
unfolding is
is_key d c h = let t = bit_pos (eqb c.0 d.0 && eqb c.1 d.1) h in
    omega (
      arith,
      eqb→eq c.0 d.0 (and_l (eqb c.0 d.0) (eqb c.1 d.1) t),
      eqb→eq c.1 d.1
          (and_r (eqb c.0 d.0) (eqb c.1 d.1) t),
    )

-- two lists in order with the same pairs
pub sorted_same : (xs ys : List (ℕ × ℕ)) → Low xs → Low ys → Sorted key xs → Sorted key ys → ((φ : ℕ × ℕ → ℕ) → sum φ xs ≡ sum φ ys) → xs ≡ ys
sorted_same [] [] l m s t h = refl
sorted_same [] (y ∷ ys) l m s t h = absurd (omega (arith, h (λ c. 1)))
sorted_same (x ∷ xs) [] l m s t h = absurd (omega (arith, h (λ c. 1)))
sorted_same (x ∷ xs) (y ∷ ys) l m s t h = ap₂ ◌∷◌ equal
    (sorted_same xs ys (λ c k. l c (Memᴰ.tail k)) (λ c k. m c (Memᴰ.tail k)) s.1 t.1 (λ φ. omega (arith, h φ, ap φ equal)))
  where
    first_≤ : (a b : ℕ × ℕ) (cs bs : List (ℕ × ℕ)) → Sorted key (a ∷ cs) → ((φ : ℕ × ℕ → ℕ) → sum φ (a ∷ cs) ≡ sum φ (b ∷ bs)) → key a ≤ key b
    first_≤ a b cs bs s h = let (c, k, p) = sum_pos (is b) (a ∷ cs) (omega (arith, h (is b), is_self b)) in go c k (is_key b c p)
      where
        go : (c : ℕ × ℕ) → c ∈ (a ∷ cs) → key c ≡ key b → key a ≤ key b
        go c (Memᴰ.head e) q = omega (arith, ap key e)
        go c (Memᴰ.tail k) q = omega (arith, s.0 c k)

    equal : x ≡ y
    equal = key_same x y (l x (Memᴰ.head refl)) (m y (Memᴰ.head refl)) (omega (arith, first_≤ x y xs ys s h, first_≤ y x ys xs t (λ φ. sym (h φ))))

-- ---- the smallest
pub lex_same : (xs ys : List (ℕ × ℕ)) → Low xs → Low ys → length xs ≡ length ys → LexLe xs ys → LexLe ys xs → xs ≡ ys
lex_same [] [] l m e h k = refl
lex_same [] (y ∷ ys) l m e h k = absurd (omega arith)
lex_same (x ∷ xs) [] l m e h k = absurd h
lex_same (x ∷ xs) (y ∷ ys) l m e (inl h) (inl k) = absurd (omega arith)
lex_same (x ∷ xs) (y ∷ ys) l m e (inl h) (inr (k, r)) = absurd (omega arith)
lex_same (x ∷ xs) (y ∷ ys) l m e (inr (h, r)) (inl k) = absurd (omega arith)
lex_same (x ∷ xs) (y ∷ ys) l m e (inr (h, r)) (inr (k, q)) = ap₂ ◌∷◌ (key_same x y (l x (Memᴰ.head refl)) (m y (Memᴰ.head refl)) h)
    (lex_same xs ys (λ c i. l c (Memᴰ.tail i)) (λ c i. m c (Memᴰ.tail i)) (omega arith) r q)

smaller_yes : (xs ys : List (ℕ × ℕ)) → Low xs → Low ys → T (smaller xs ys) → LexLe xs ys
smaller_yes [] ys l m t = tt
smaller_yes (x ∷ xs) [] l m t = absurd t
smaller_yes (x ∷ xs) (y ∷ ys) l m t = ⊎_elim
    (λ s. inl (ltb→lt (key x) (key y) (subst T (sooner_key x y lx ly) s)))
    (λ s. by_cases (dec_lt (key x) (key y)) (λ k. inl k) (λ n. inr (
      omega (arith, nltb→le (key y) (key x) (subst (λ b. T (not b)) (sooner_key y x ly lx) (and_l (not (sooner y x)) (smaller xs ys) s))),
      smaller_yes xs ys (λ c i. l c (Memᴰ.tail i)) (λ c i. m c (Memᴰ.tail i)) (and_r (not (sooner y x)) (smaller xs ys) s),
    )))
    (or_case (sooner x y) (not (sooner y x) && smaller xs ys) t)
  where
    lx : x.1 < 64
    lx = l x (Memᴰ.head refl)

    ly : y.1 < 64
    ly = m y (Memᴰ.head refl)

smaller_no : (xs ys : List (ℕ × ℕ)) → Low xs → Low ys → length xs ≡ length ys → T (not (smaller xs ys)) → LexLe ys xs
smaller_no [] [] l m e t = tt
smaller_no [] (y ∷ ys) l m e t = absurd (omega arith)
smaller_no (x ∷ xs) [] l m e t = tt
smaller_no (x ∷ xs) (y ∷ ys) l m e t = by-test (sooner y x)
    (λ s. inl (ltb→lt (key y) (key x) (subst T (sooner_key y x ly lx) s)))
    (λ s. inr (
      omega (
        arith,
        nltb→le (key y) (key x) (subst (λ b. T (not b)) (sooner_key y x ly lx) s),
        nltb→le (key x) (key y)
            (subst (λ b. T (not b)) (sooner_key x y lx ly) (nor_l (sooner x y) (not (sooner y x) && smaller xs ys) t)),
      ),
      smaller_no xs ys (λ c i. l c (Memᴰ.tail i)) (λ c i. m c (Memᴰ.tail i)) (omega arith)
          (nand_r (not (sooner y x)) (smaller xs ys) (nor_r (sooner x y) (not (sooner y x) && smaller xs ys) t) s),
    ))
  where
    lx : x.1 < 64
    lx = l x (Memᴰ.head refl)

    ly : y.1 < 64
    ly = m y (Memᴰ.head refl)

-- of two lists that are not greater the one is not smaller than the other
pub never_smaller : (xs ys : List (ℕ × ℕ)) → Low xs → Low ys → LexLe ys xs → T (not (smaller xs ys))
never_smaller [] ys l m h = tt
never_smaller (x ∷ xs) [] l m h = tt
never_smaller (x ∷ xs) (y ∷ ys) l m (inl h) = go (sooner x y) (sooner y x)
    (sooner_key x y lx ly ∙ le-ltb (key x) (key y) (omega arith)) (sooner_key y x ly lx ∙ lt-ltb (key y) (key x) h)
  where
    lx : x.1 < 64
    lx = l x (Memᴰ.head refl)

    ly : y.1 < 64
    ly = m y (Memᴰ.head refl)

    go : (a b : Bool) → a ≡ false → b ≡ true → T (not (a || (not b && smaller xs ys)))
    go true b p q = absurd (subst T p tt)
    go false true p q = tt
    go false false p q = absurd (subst T (sym q) tt)
never_smaller (x ∷ xs) (y ∷ ys) l m (inr (h, k)) = go (sooner x y) (sooner y x)
    (sooner_key x y (l x (Memᴰ.head refl)) (m y (Memᴰ.head refl)) ∙ le-ltb (key x) (key y) (omega arith))
    (never_smaller xs ys (λ c i. l c (Memᴰ.tail i)) (λ c i. m c (Memᴰ.tail i)) k)
  where
    go : (a b : Bool) → a ≡ false → T (not (smaller xs ys)) → T (not (a || (not b && smaller xs ys)))
    go true b p t = absurd (subst T p tt)
    go false true p t = tt
    go false false p t = t

abbrev Fit : ℕ → List (ℕ × ℕ) → Type 0
Fit n l = (length l ≡ n) × Low l

pub smallest_ok : (n : ℕ) (l : List (ℕ × ℕ)) (ks : List (List (ℕ × ℕ))) → ((z : List (ℕ × ℕ)) → z ∈ (l ∷ ks) → Fit n z)
    → (smallest l ks ∈ (l ∷ ks)) × ((z : List (ℕ × ℕ)) → z ∈ (l ∷ ks) → LexLe (smallest l ks) z)
smallest_ok n l [] f = (Memᴰ.head refl, λ z m. only z m)
  where
    only : (z : List (ℕ × ℕ)) → z ∈ (l ∷ []) → LexLe l z
    only z (Memᴰ.head e) = subst (LexLe l) (sym e) (lex_refl l)
    only z (Memᴰ.tail m) = absurd (Memᴰ.not-nil m)
smallest_ok n l (k ∷ ks) f = by_bool (smaller k l)
    (λ e. subst Good (ap (λ b. smallest (cond b k l) ks) (sym e)) (take (true_t e) (smallest_ok n k ks (λ z m. f z (Memᴰ.tail m)))))
    (λ e. subst Good (ap (λ b. smallest (cond b k l) ks) (sym e)) (leave (false_t e) (smallest_ok n l ks (λ z m. f z (skip z m)))))
  where
    Good : List (ℕ × ℕ) → Type 0
    Good s = (s ∈ (l ∷ k ∷ ks)) × ((z : List (ℕ × ℕ)) → z ∈ (l ∷ k ∷ ks) → LexLe s z)

    skip : (z : List (ℕ × ℕ)) → z ∈ (l ∷ ks) → z ∈ (l ∷ k ∷ ks)
    skip z (Memᴰ.head e) = Memᴰ.head e
    skip z (Memᴰ.tail m) = Memᴰ.tail (Memᴰ.tail m)

    fl : Fit n l
    fl = f l (Memᴰ.head refl)

    fk : Fit n k
    fk = f k (Memᴰ.tail (Memᴰ.head refl))

    take : T (smaller k l) → (smallest k ks ∈ (k ∷ ks)) × ((z : List (ℕ × ℕ)) → z ∈ (k ∷ ks) → LexLe (smallest k ks) z) → Good (smallest k ks)
    take t (m, h) = (Memᴰ.tail m, λ z i. go z i)
      where
        go : (z : List (ℕ × ℕ)) → z ∈ (l ∷ k ∷ ks) → LexLe (smallest k ks) z
        go z (Memᴰ.head e) = subst (LexLe (smallest k ks)) (sym e)
            (lex_trans (smallest k ks) k l (h k (Memᴰ.head refl)) (smaller_yes k l fk.1 fl.1 t))
        go z (Memᴰ.tail i) = h z i

    leave : T (not (smaller k l)) → (smallest l ks ∈ (l ∷ ks)) × ((z : List (ℕ × ℕ)) → z ∈ (l ∷ ks) → LexLe (smallest l ks) z) → Good (smallest l ks)
    leave t (m, h) = (skip (smallest l ks) m, λ z i. go z i)
      where
        go : (z : List (ℕ × ℕ)) → z ∈ (l ∷ k ∷ ks) → LexLe (smallest l ks) z
        go z (Memᴰ.head e) = subst (LexLe (smallest l ks)) (sym e) (h l (Memᴰ.head refl))
        go z (Memᴰ.tail (Memᴰ.head e)) = subst (LexLe (smallest l ks)) (sym e)
            (lex_trans (smallest l ks) l k (h l (Memᴰ.head refl)) (smaller_no k l fk.1 fl.1 (fk.0 ∙ sym fl.0) t))
        go z (Memᴰ.tail (Memᴰ.tail i)) = h z (Memᴰ.tail i)
