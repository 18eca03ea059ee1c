-- Fronts of a text that is put piece by piece.
use Rattle.std.proofs.Common.{◌≡◌, ℕ, zero, suc, ◌-◌, ◌<◌, ◌≤◌, List, [], ◌∷◌, ◌++◌, length, get_or, take, drop, refl, sym, ap, subst, ◌∙◌, append_assoc, arith, codes, flat_map, append-nil, take-append-drop}
use Rattle.std.specs.Fmt.{decimal}
use Rattle.std.proofs.lemmas.List.{take_rest}
use Rattle.std.proofs.lemmas.List.Concat.{flat_map-append}
use Rattle.kin_script.specs.Printed.{PutsFront, list_line}
use Rattle.kin_print.specs.Pieces.{spaced}

pub nothing : (before now text : List ℕ) → now ≡ before → PutsFront before now text
nothing before now text e = record { front = []; rest = text; cut = refl; put = e ∙ sym (append-nil before) }

pub front_first : (before now s t : List ℕ) → PutsFront before now s → PutsFront before now (s ++ t)
front_first before now s t p = record {
  front = p.front;
  rest = p.rest ++ t;
  cut = ap (λ (w : List ℕ). w ++ t) p.cut ∙ append_assoc p.front p.rest t;
  put = p.put;
}

pub front_behind : (before mid now s t : List ℕ) → mid ≡ before ++ s → PutsFront mid now t → PutsFront before now (s ++ t)
front_behind before mid now s t e p = record {
  front = s ++ p.front;
  rest = p.rest;
  cut = ap (λ (w : List ℕ). s ++ w) p.cut ∙ sym (append_assoc s p.front p.rest);
  put = p.put ∙ ap (λ (w : List ℕ). w ++ p.front) e ∙ append_assoc before s p.front;
}

pub both : (before mid now s t text : List ℕ) → mid ≡ before ++ s → s ++ t ≡ text → now ≡ mid ++ t → now ≡ before ++ text
both before mid now s t text e f g = g ∙ ap (λ (w : List ℕ). w ++ t) e ∙ append_assoc before s t ∙ ap (λ (w : List ℕ). before ++ w) f

pub front_of_both : (before mid now s t text : List ℕ) → mid ≡ before ++ s → s ++ t ≡ text → PutsFront mid now t → PutsFront before now text
front_of_both before mid now s t text e f p = subst (λ (w : List ℕ). PutsFront before now w) f (front_behind before mid now s t e p)

-- ---- a loop that puts the text of each item

module _ {X : Type 0} (f : X → List ℕ) where
  pub parts : (xs : List X) (i : ℕ) (d : X) → i < length xs → flat_map f xs ≡ flat_map f (take i xs) ++ (f (get_or xs i d) ++ flat_map f (drop (suc i) xs))
  parts [] i d lt = absurd (omega arith)
  parts (x ∷ xs) zero d lt = refl
  parts (x ∷ xs) (suc i) d lt =
      ap (λ (w : List ℕ). f x ++ w) (parts xs i d (omega arith)) ∙ sym (append_assoc (f x) (flat_map f (take i xs)) (f (get_or xs i d) ++ flat_map f (drop (suc i) xs)))

  pub front_at : (before mid now : List ℕ) (xs : List X) (i : ℕ) (d : X) → i < length xs
      → mid ≡ before ++ flat_map f (take i xs) → PutsFront mid now (f (get_or xs i d)) → PutsFront before now (flat_map f xs)
  front_at before mid now xs i d lt e p =
      let here = front_behind before mid now (flat_map f (take i xs)) (f (get_or xs i d) ++ flat_map f (drop (suc i) xs)) e (front_first mid now (f (get_or xs i d)) (flat_map f (drop (suc i) xs)) p) in
      subst (λ (w : List ℕ). PutsFront before now w) (sym (parts xs i d lt)) here

  -- the loop ends between two items
  pub front_between : (before mid now : List ℕ) (xs : List X) (i : ℕ) → mid ≡ before ++ flat_map f (take i xs) → now ≡ mid → PutsFront before now (flat_map f xs)
  front_between before mid now xs i e same = record {
    front = flat_map f (take i xs);
    rest = flat_map f (drop i xs);
    cut = sym (ap (flat_map f) (take-append-drop i xs)) ∙ flat_map-append f (take i xs) (drop i xs);
    put = same ∙ e;
  }

-- ---- a line of numbers

pub line_of_some : (xs : List ℕ) → 1 ≤ length xs → decimal (get_or xs 0 0) ++ (flat_map spaced (take (length xs - 1) (drop 1 xs)) ++ codes "\n") ≡ list_line xs
line_of_some [] some = absurd (omega arith)
line_of_some (x ∷ xs) some = rw (take_rest (x ∷ xs) 1) (sym (append_assoc (decimal x) (flat_map spaced xs) (codes "\n")))
