-- Laws of the lent diary: how many records a flat diary gives, one record more, and that a flat diary which holds the model's records gives these.
use Rattle.std.specs.Prelude.{ℕ, zero, suc, ◌+◌, ◌*◌, ◌≡◌, refl, List, [], ◌∷◌, ◌++◌, length, get_or, drop}
use Rattle.std.proofs.Common.{arith, sym, ap, ◌∙◌, get_or-drop}
use Rattle.std.proofs.lemmas.List.{length-map}
use Rattle.lists.specs.Keep.{gather}
use Rattle.model.specs.Finder.{Record}
use Rattle.model_desk.specs.Desk.{onto}
use Rattle.diary.specs.FlatDiary.{numbers, written, record_width}
use Rattle.diary.specs.declared.Step.{Step}
use Rattle.diary.specs.LentSteps.{record_in, records_in, step_at, steps_in}

pub steps_length : (n : ℕ) (f : List ℕ) → length (steps_in n f) ≡ n
unfolding steps_in
steps_length zero f = refl
steps_length (suc n) f = ap suc (steps_length n (drop record_width f))

-- the record behind the first one's numbers
shifted : (f : List ℕ) (i : ℕ) → step_at (drop record_width f) i ≡ step_at f (suc i)
shifted f i = λ j. record {
  fate = at (i * record_width) (suc i * record_width) (omega arith) j;
  surveyor = at (i * record_width + 1) (suc i * record_width + 1) (omega arith) j;
  stand = at (i * record_width + 2) (suc i * record_width + 2) (omega arith) j;
  shift = at (i * record_width + 3) (suc i * record_width + 3) (omega arith) j;
  rule = at (i * record_width + 4) (suc i * record_width + 4) (omega arith) j;
}
  where
    at : (k l : ℕ) → record_width + k ≡ l → get_or (drop record_width f) k 0 ≡ get_or f l 0
    at k l e = get_or-drop record_width f k 0 ∙ ap (λ m. get_or f m 0) e

-- one record more: the last one
pub steps_more : (n : ℕ) (f : List ℕ) → steps_in (suc n) f ≡ steps_in n f ++ (step_at f n ∷ [])
unfolding steps_in
steps_more zero f = refl
steps_more (suc n) f = ap (λ (l : List Step). step_at f 0 ∷ l)
    (steps_more n (drop record_width f) ∙ ap (λ (s : Step). steps_in n (drop record_width f) ++ (s ∷ [])) (shifted f n))

-- a flat diary that holds records gives them
held : (rs : List Record) (tail : List ℕ) → records_in (steps_in (length rs) (gather numbers rs ++ tail)) ≡ rs
unfolding steps_in
held [] tail = refl
held (r ∷ rs) tail = ap (λ (l : List Record). r ∷ l) (held rs tail)

map_drop : (n : ℕ) (d : List Step) → records_in (drop n d) ≡ drop n (records_in d)
map_drop zero d = refl
map_drop (suc n) [] = refl
map_drop (suc n) (x ∷ d) = map_drop n d

map_append : (xs ys : List Step) → records_in (xs ++ ys) ≡ records_in xs ++ records_in ys
map_append [] ys = refl
map_append (x ∷ xs) ys = ap (λ (l : List Record). record_in x ∷ l) (map_append xs ys)

pub records_onto : (xs d : List Step) → records_in (onto xs d) ≡ onto (records_in xs) (records_in d)
records_onto xs d =
    map_append xs (drop (length xs) d)
    ∙ ap (λ (l : List Record). records_in xs ++ l) (map_drop (length xs) d ∙ ap (λ (n : ℕ). drop n (records_in d)) (sym (length-map xs record_in)))

-- what `fill` leaves of a flat diary that holds records, as the model's records: these at the front, the rest as it was
pub filled_diary : (rs : List Record) (n : ℕ) (flat room : List ℕ) (before after : List Step) → flat ≡ written rs room → n ≡ length rs
    → after ≡ onto (steps_in n flat) before
    → records_in after ≡ onto rs (records_in before)
unfolding written
filled_diary rs n flat room before after e h k =
    ap records_in k ∙ records_onto (steps_in n flat) before
    ∙ ap (λ (l : List Record). onto l (records_in before))
    (ap (λ (m : ℕ). records_in (steps_in m flat)) h ∙ ap (λ (l : List ℕ). records_in (steps_in (length rs) l)) e ∙ held rs (drop (record_width * length rs) room))

-- no record, as on a refusal: the lent diary is left as it was
pub filled_none : (n : ℕ) (flat : List ℕ) (before after : List Step) → n ≡ 0 → after ≡ onto (steps_in n flat) before → after ≡ before
unfolding steps_in
filled_none n flat before after h k = k ∙ ap (λ (m : ℕ). onto (steps_in m flat) before) h
