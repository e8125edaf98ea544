-- A pair's bytes at a place, put and read, and what putting them does to a buffer of which the front is written. Old files (W-205) have no
-- shift byte, and mean shift 1.
use Rattle.std.specs.Prelude.{ℕ, suc, ◌+◌, ◌≤◌, ◌<◌, ◌≡◌, refl, Bool, true, false, cond, List, [], ◌∷◌, ◌++◌, length, get_or, set, drop}
use Rattle.std.proofs.Common.{arith, sym, ap, ◌∙◌, append_assoc, length-append, length-set, drop-cons}
use Rattle.std.proofs.lemmas.List.{set_at}
use Rattle.model.specs.Limits.{pair_width}
use Rattle.model.specs.PlanFile.{Named, PairLayout, three_bytes, shifted_pair, plain_pair}
use Rattle.model.specs.Reading.{accepted, refused}
use Rattle.pair_bytes.specs.declared.Pair.{Pair}

-- the bytes of the pair of surveyor s and stand t in shift k
abbrev pub pair_of : (s t k : ℕ) → List ℕ
pair_of s t k = suc s ∷ suc t ∷ k ∷ []

pub pair_wide : (s t k : ℕ) → length (pair_of s t k) ≡ pair_width
pair_wide s t k = refl

-- a buffer with them at a place
abbrev pub with_pair : List ℕ → (at s t k : ℕ) → List ℕ
with_pair d i s t k = set (set (set d i (suc s)) (i + 1) (suc t)) (i + 2) k

-- a buffer with a pair put into it keeps its length
pub with_length : (d : List ℕ) (i s t k : ℕ) → length (with_pair d i s t k) ≡ length d
with_length d i s t k = simp length-set refl

-- the layout of a file's pairs: with shifts, or without
abbrev pub pair_layout : Bool → PairLayout
pair_layout true = shifted_pair
pair_layout false = plain_pair

-- how many bytes a pair has there
abbrev pub width_of : Bool → ℕ
width_of shifts = cond shifts pair_width 2

-- the pair that the bytes at a place name
abbrev pub pair_from : Bool → List ℕ → ℕ → Pair
pair_from shifts d i = record { surveyor = get_or d i 0; stand = get_or d (i + 1) 0; shift = cond shifts (get_or d (i + 2) 0) 1 }

-- one byte behind a front that is written
byte_behind : (w d : List ℕ) (i v : ℕ) → length w ≡ i → i < length d → set (w ++ drop i d) i v ≡ (w ++ v ∷ []) ++ drop (i + 1) d
byte_behind w d i v l h =
    ap (λ z. set (w ++ z) i v) (drop-cons d i 0 h) ∙ set_at w (get_or d i 0) (drop (suc i) d) v i l ∙ sym (append_assoc w (v ∷ []) (drop (suc i) d))
    ∙ ap (λ n. (w ++ v ∷ []) ++ drop n d) (next i)
  where
    next : (i : ℕ) → suc i ≡ i + 1
    next i = omega arith

-- two bytes, and three
two_behind : (w d : List ℕ) (i a b : ℕ) → length w ≡ i → i + 2 ≤ length d
    → set (set (w ++ drop i d) i a) (i + 1) b ≡ (w ++ a ∷ b ∷ []) ++ drop (i + 2) d
two_behind w d i a b l h =
    let m : length (w ++ a ∷ []) ≡ i + 1 = length-append w (a ∷ []) ∙ ap (λ n. n + 1) l in
    let n : i + 1 + 1 ≡ i + 2 = omega arith in
    ap (λ z. set z (i + 1) b) (byte_behind w d i a l (omega arith)) ∙ byte_behind (w ++ a ∷ []) d (i + 1) b m (omega arith)
    ∙ ap (λ z. ((w ++ a ∷ []) ++ b ∷ []) ++ drop z d) n ∙ ap (λ z. z ++ drop (i + 2) d) (append_assoc w (a ∷ []) (b ∷ []))

three_behind : (w d : List ℕ) (i a b k : ℕ) → length w ≡ i → i + pair_width ≤ length d
    → set (set (set (w ++ drop i d) i a) (i + 1) b) (i + 2) k ≡ (w ++ a ∷ b ∷ k ∷ []) ++ drop (i + pair_width) d
three_behind w d i a b k l h =
    let m : length (w ++ a ∷ b ∷ []) ≡ i + 2 = length-append w (a ∷ b ∷ []) ∙ ap (λ n. n + 2) l in
    let n : i + 2 + 1 ≡ i + pair_width = omega arith in
    ap (λ z. set z (i + 2) k) (two_behind w d i a b l (omega arith)) ∙ byte_behind (w ++ a ∷ b ∷ []) d (i + 2) k m (omega arith)
    ∙ ap (λ z. ((w ++ a ∷ b ∷ []) ++ k ∷ []) ++ drop z d) n ∙ ap (λ z. z ++ drop (i + pair_width) d) (append_assoc w (a ∷ b ∷ []) (k ∷ []))

-- behind a front that is written
pub pair_behind : (w d : List ℕ) (i s t k : ℕ) → length w ≡ i → i + pair_width ≤ length d
    → with_pair (w ++ drop i d) i s t k ≡ (w ++ pair_of s t k) ++ drop (i + pair_width) d
pair_behind w d i s t k l h = three_behind w d i (suc s) (suc t) k l h

-- the same in either layout
abbrev pub named_of : Pair → Named
named_of p = record { surveyor = p.surveyor; stand = p.stand; shift = p.shift }

-- a buffer with a pair's bytes at a place: surveyor, stand and, in a file with shifts, the shift
abbrev pub put_by : Bool → List ℕ → ℕ → Pair → List ℕ
put_by shifts d i p = cond shifts (set (set (set d i p.surveyor) (i + 1) p.stand) (i + 2) p.shift) (set (set d i p.surveyor) (i + 1) p.stand)

-- in either layout the buffer keeps its length
pub put_length : (shifts : Bool) (d : List ℕ) (i : ℕ) (p : Pair) → length (put_by shifts d i p) ≡ length d
put_length true d i p = simp length-set refl
put_length false d i p = simp length-set refl

-- put behind a front that is written, a pair's bytes go on with the front, and what lies behind them stays
pub put_behind : (shifts : Bool) (w d : List ℕ) (i : ℕ) (p : Pair) → length w ≡ i → i + width_of shifts ≤ length d
    → put_by shifts (w ++ drop i d) i p ≡ (w ++ (pair_layout shifts).bytes (named_of p)) ++ drop (i + width_of shifts) d
put_behind true w d i p l h = three_behind w d i p.surveyor p.stand p.shift l h
put_behind false w d i p l h = two_behind w d i p.surveyor p.stand l h

pub width_least : (shifts : Bool) → 2 ≤ width_of shifts
width_least true = omega arith
width_least false = omega arith

-- a pair has at most three bytes
pub width_most : (shifts : Bool) → width_of shifts ≤ pair_width
width_most true = omega arith
width_most false = omega arith

pub width_shifts : {shifts : Bool} → shifts ≡ true → width_of shifts ≡ pair_width
width_shifts e = ap width_of e

-- ---- the model's reading of a pair in such a file: cut short, or the pair at the place
abbrev pub named_at : Bool → List ℕ → ℕ → Named
named_at shifts d i = named_of (pair_from shifts d i)

-- fewer bytes than a pair has: refusal 1
pub field_cut : (shifts : Bool) (bs : List ℕ) → length bs < width_of shifts → (pair_layout shifts).field bs ≡ refused 1
field_cut true [] h = refl
field_cut true (x ∷ []) h = refl
field_cut true (x ∷ y ∷ []) h = refl
field_cut true (x ∷ y ∷ z ∷ bs) h = absurd (omega arith)
field_cut false [] h = refl
field_cut false (x ∷ []) h = refl
field_cut false (x ∷ y ∷ bs) h = absurd (omega arith)

-- bytes enough for a pair at the place: that pair is read, and the bytes behind it are left
pub field_at : (shifts : Bool) (f : List ℕ) (i : ℕ) → i + width_of shifts ≤ length f
    → (pair_layout shifts).field (drop i f) ≡ accepted (named_at shifts f i, drop (i + width_of shifts) f)
field_at shifts f i h =
    let e : drop i f ≡ get_or f i 0 ∷ get_or f (i + 1) 0 ∷ drop (i + 2) f =
    one i (omega (arith, width_least shifts))
    ∙ ap (λ z. get_or f i 0 ∷ z) (one (i + 1) (omega (arith, width_least shifts)) ∙ ap (λ k. get_or f (i + 1) 0 ∷ drop k f) (two i)) in
    ap (pair_layout shifts).field e ∙ go shifts h
  where
    one : (k : ℕ) → k < length f → drop k f ≡ get_or f k 0 ∷ drop (k + 1) f
    one k l = drop-cons f k 0 l ∙ ap (λ n. get_or f k 0 ∷ drop n f) (next k)
      where
        next : (k : ℕ) → suc k ≡ k + 1
        next k = omega arith

    two : (k : ℕ) → k + 1 + 1 ≡ k + 2
    two k = omega arith

    three : (k : ℕ) → k + 2 + 1 ≡ k + pair_width
    three k = omega arith

    go : (b : Bool) → i + width_of b ≤ length f
        → (pair_layout b).field (get_or f i 0 ∷ get_or f (i + 1) 0 ∷ drop (i + 2) f) ≡ accepted (named_at b f i, drop (i + width_of b) f)
    go true l = ap (λ z. three_bytes (get_or f i 0 ∷ get_or f (i + 1) 0 ∷ z)) (one (i + 2) (omega arith)) ∙ ap (λ k. accepted (named_at true f i, drop k f)) (three i)
    go false l = refl
