-- Facts dropped one by one, and born one by one.
use Rattle.std.proofs.Common.{◌≡◌, ℕ, ◌+◌, ◌<◌, ◌≤◌, List, [], ◌∷◌, length, get_or, Some, refl, sym, ap, subst, ◌∙◌, ◌⊎◌, inl, inr, ◌↔◌, arith}
use Rattle.std.proofs.lemmas.Option.{slice_get-get_or}
use Rattle.std.proofs.lemmas.List.{get_or_default}
use Rattle.std.specs.List.{Contains, All, AllPairs}
use Rattle.std.proofs.lemmas.Bool.{cases_lt}
use Rattle.std.proofs.lemmas.List.Elements.{All-get_or, Contains-get_or}
use Rattle.kin_num.specs.declared.instant.Moment.{Moment}
use Rattle.kin_motion.specs.declared.fact.Placed.{Placed}
use Rattle.kin_motion.specs.declared.form.Form.{Form}
use Rattle.kin_motion.specs.Kinetics.{AreDistinct}
use Rattle.kin_motion.specs.Live.{Certificate}
use Rattle.kin_motion.specs.Deltas.{Change}
use Rattle.kin_motion.specs.Scene.{Scene}
use Rattle.kin_cert.specs.Facts.{LiveFact, IsAt, AreAlike, NoneAlike}
use Rattle.kin_cert.specs.Applied.{IsOf, Is, IsLiveIn, IsAmong, AreUnlike, IsBorn, HasApplied}
use Rattle.kin_cert.specs.Layout.{HasBorn}

-- the first n of these are dropped
pub record AreDropped (structure : ℕ) (dropped : List Placed) (n : ℕ) (old new : List LiveFact) : Type 0 where
  pub rest : (l : LiveFact) → Contains new l ↔ (Contains old l × ((j : ℕ) (p : Placed) → j < n → ¬ (IsOf structure (get_or dropped j p) l)))
  pub count : length new + n ≡ length old

-- the first n of these are born
pub record AreBorn (structure : ℕ) (scene : Moment → Scene) (now : Moment) (born : List Placed) (n : ℕ) (old new : List LiveFact) : Type 0 where
  pub kept : (l : LiveFact) → Contains old l → Contains new l
  pub born_one : (j : ℕ) (p : Placed) → j < n → (l : LiveFact) × Contains new l × IsBorn structure scene now (get_or born j p) l
  pub only : (l : LiveFact) → Contains new l → Contains old l ⊎ ((j : ℕ) × (j < n) × ((p : Placed) → IsBorn structure scene now (get_or born j p) l))
  pub count : length new ≡ length old + n

alike : (s p : ℕ) (f : Form) (k l : LiveFact) → IsAt s p f k → IsAt s p f l → AreAlike k l
alike s p f k l a b =
    record {
      structure_is = a.structure_is ∙ sym b.structure_is;
      part_is = a.part_is ∙ sym b.part_is;
      form_is = a.form_is ∙ sym b.form_is;
    }

-- no owner has a form twice
pub once-same : (live : List LiveFact) → NoneAlike live → (s p : ℕ) (f : Form) (k l : LiveFact) → Contains live k → Contains live l → IsAt s p f k → IsAt s p f l → k ≡ l
once-same live once s p f k l (i, i_in, i_is) (j, j_in, j_is) a b =
    let j_is' : get_or live j k ≡ l = get_or_default live j k l j_in ∙ j_is in
    elim (cases_lt i j) [
      | inl lt ↦ absurd (once i j k lt j_in (subst (λ (x : LiveFact). AreAlike x (get_or live j k)) (sym i_is) (subst (λ (x : LiveFact). AreAlike k x) (sym j_is') (alike s p f k l a b))))
      | inr ge ↦ elim (cases_lt j i) [
        | inl lt ↦ absurd (once j i k lt i_in (subst (λ (x : LiveFact). AreAlike x (get_or live i k)) (sym j_is') (subst (λ (x : LiveFact). AreAlike l x) (sym i_is) (alike s p f l k b a))))
        | inr le ↦ let e : i ≡ j = omega arith in sym i_is ∙ ap (λ (n : ℕ). get_or live n k) e ∙ j_is'
      ]
    ]

pub is-at : (s : ℕ) (p : Placed) (l : LiveFact) → Is s p l → IsOf s p l
is-at s p l e =
    record {
      structure_is = ap (λ (c : Certificate). c.structure) e;
      part_is = ap (λ (c : Certificate). c.placed.part) e;
      form_is = ap (λ (c : Certificate). c.placed.fact.form) e;
    }

module _ (s : ℕ) (ps : List Placed) (n : ℕ) (old cur : List LiveFact) where
  pub dropped-live : (d : Placed) → n < length ps → AreDropped s ps n old cur → NoneAlike old → All (IsLiveIn old s) ps → AreDistinct ps → IsLiveIn cur s (get_or ps n d)
  dropped-live d lt h once live distinct =
      let l = All-get_or (IsLiveIn old s) ps n d lt live in
      let untouched : (j : ℕ) (p : Placed) → j < n → ¬ (IsOf s (get_or ps j p) l.0) = λ j p jn of.
      let k = All-get_or (IsLiveIn old s) ps j d (omega arith) live in
      let of_d : IsOf s (get_or ps j d) l.0 = subst (λ (x : Placed). IsOf s x l.0) (get_or_default ps j p d (omega arith)) of in
      let same_fact : k.0 ≡ l.0 = once-same old once s (get_or ps j d).part (get_or ps j d).fact.form k.0 l.0 k.1 l.1 (is-at s (get_or ps j d) k.0 k.2) of_d in
      let same_placed : get_or ps j d ≡ get_or ps n d = ap (λ (c : Certificate). c.placed) (sym k.2 ∙ ap (λ (x : LiveFact). x.certificate) same_fact ∙ l.2) in
      let e : j ≡ n = distinct j n (get_or ps n d) (slice_get-get_or ps j d (omega arith) ∙ ap Some same_placed) (slice_get-get_or ps n d lt) in
      omega (arith, e, jn) in
      (l.0, (h.rest l.0).1 (l.1, untouched), l.2)

  pub dropped-more : (new : List LiveFact) (d : Placed) → n < length ps → AreDropped s ps n old cur → ((l : LiveFact) → Contains new l ↔ (Contains cur l × ¬ (IsOf s (get_or ps n d) l))) → length new + 1 ≡ length cur → AreDropped s ps (n + 1) old new
  dropped-more new d lt h rest count =
      record {
        rest = λ l. (
          (λ c.
              let r = (rest l).0 c in
              let o = (h.rest l).0 r.0 in (
                o.0,
                λ j p jn of. elim (cases_lt j n) [
                  | inl less ↦ o.1 j p less of
                  | inr ge ↦ let e : j ≡ n = omega arith in r.1 (subst (λ (x : Placed). IsOf s x l) (ap (λ (m : ℕ). get_or ps m p) e ∙ get_or_default ps n p d lt) of)
                ],
              )),
          (λ (c, none). (rest l).1 ((h.rest l).1 (c, λ j p jn. none j p (omega arith)), none n d (omega arith))),
        );
        count = omega (arith, h.count, count);
      }

  pub dropped-all : AreDropped s ps n old cur → length ps ≤ n → n ≤ length ps → (l : LiveFact) → Contains cur l ↔ (Contains old l × ¬ (IsAmong s ps l))
  dropped-all h le ge l = (
    (λ c.
        let o = (h.rest l).0 c in
        (o.0, λ (p, (j, j_in, j_is), of). o.1 j p (omega arith) (subst (λ (x : Placed). IsOf s x l) (sym j_is) of))),
    (λ (c, none). (h.rest l).1 (c, λ j p jn of. none (get_or ps j p, Contains-get_or ps j p (omega arith), of))),
  )

pub some-element : {X : Type 0} (xs : List X) (i : ℕ) → i < length xs → X
some-element [] i lt = absurd (omega (arith, lt))
some-element (x ∷ xs) i lt = x

module _ (s : ℕ) (scene : Moment → Scene) (now : Moment) (ps : List Placed) (n : ℕ) (old cur : List LiveFact) where
  pub born-none : AreBorn s scene now ps 0 old old
  born-none =
      record {
        kept = λ l c. c;
        born_one = λ j p lt. absurd (omega (arith, lt));
        only = λ l c. inl c;
        count = omega arith;
      }

  pub born-free : (d : Placed) → n < length ps → AreBorn s scene now ps n old cur → ((l : LiveFact) → Contains old l → ¬ (IsAmong s ps l)) → AllPairs AreUnlike ps → (l : LiveFact) → Contains cur l → ¬ (IsOf s (get_or ps n d) l)
  born-free d lt h free apart l c of =
      elim (h.only l c) [
        | inl o ↦ free l o (get_or ps n d, Contains-get_or ps n d lt, of)
        | inr b ↦
            let at = is-at s (get_or ps b.0 d) l (b.2 d).is in
            apart b.0 n d b.1 lt (sym at.part_is ∙ of.part_is) (sym at.form_is ∙ of.form_is)
      ]

  pub born-more : (new : List LiveFact) (d : Placed) → n < length ps → AreBorn s scene now ps n old cur → HasBorn s scene now (get_or ps n d) cur new → length new ≡ length cur + 1 → AreBorn s scene now ps (n + 1) old new
  born-more new d lt h gained count =
      record {
        kept = λ l c. (gained.exactly l).1 (inl (h.kept l c));
        born_one = λ j p jn. elim (cases_lt j n) [
          | inl less ↦ let b = h.born_one j p less in (b.0, (gained.exactly b.0).1 (inl b.1), b.2)
          | inr ge ↦
              let e : j ≡ n = omega arith in
              (gained.fact, (gained.exactly gained.fact).1 (inr refl), subst (λ (x : Placed). IsBorn s scene now x gained.fact) (get_or_default ps n d p lt ∙ ap (λ (m : ℕ). get_or ps m p) (sym e)) gained.is_born)
        ];
        only = λ l c. elim ((gained.exactly l).0 c) [
          | inl o ↦ elim (h.only l o) [
            | inl oo ↦ inl oo
            | inr b ↦ inr (b.0, omega (arith, b.1), b.2)
          ]
          | inr l_is ↦ inr (n, omega arith, λ p. subst (λ (x : Placed). IsBorn s scene now x l) (get_or_default ps n d p lt) (subst (λ (x : LiveFact). IsBorn s scene now (get_or ps n d) x) (sym l_is) gained.is_born))
        ];
        count = omega (arith, h.count, count);
      }

  pub born-all : AreBorn s scene now ps n old cur → length ps ≤ n → (p : Placed) → Contains ps p → (l : LiveFact) × Contains cur l × IsBorn s scene now p l
  born-all h le p (j, j_in, j_is) =
      let b = h.born_one j p (omega arith) in
      (b.0, b.1, subst (λ (x : Placed). IsBorn s scene now x b.0) j_is b.2)

  pub born-only : AreBorn s scene now ps n old cur → n ≤ length ps → (l : LiveFact) → Contains cur l → Contains old l ⊎ ((p : Placed) × Contains ps p × IsBorn s scene now p l)
  born-only h ge l c =
      elim (h.only l c) [
        | inl o ↦ inl o
        | inr b ↦
            let lt : b.0 < length ps = omega (arith, b.1) in
            let d = some-element ps b.0 lt in
            inr (get_or ps b.0 d, Contains-get_or ps b.0 d lt, b.2 d)
      ]

-- what dropping and bearing do together
pub applied : (s : ℕ) (change : Change) (scene : Moment → Scene) (now : Moment) (old mid new : List LiveFact) (dropped born : List Placed)
    → dropped ≡ change.dropped → born ≡ change.born
    → ((l : LiveFact) → Contains mid l ↔ (Contains old l × ¬ (IsAmong s dropped l))) → length mid + length dropped ≡ length old
    → ((l : LiveFact) → Contains mid l → Contains new l)
    → ((p : Placed) → Contains born p → (l : LiveFact) × Contains new l × IsBorn s scene now p l)
    → ((l : LiveFact) → Contains new l → Contains mid l ⊎ ((p : Placed) × Contains born p × IsBorn s scene now p l))
    → length new ≡ length mid + length born
    → HasApplied s change scene now old new
applied s change scene now old mid new dropped born dropped_is born_is rest fewer kept each only more =
    let among : (l : LiveFact) → IsAmong s dropped l → IsAmong s change.dropped l = λ l h. subst (λ (ps : List Placed). IsAmong s ps l) dropped_is h in
    let among' : (l : LiveFact) → IsAmong s change.dropped l → IsAmong s dropped l = λ l h. subst (λ (ps : List Placed). IsAmong s ps l) (sym dropped_is) h in
    record {
      kept = λ l c n. kept l ((rest l).1 (c, λ h. n (among l h)));
      born = λ p c. each p (subst (λ (ps : List Placed). Contains ps p) (sym born_is) c);
      only = λ l c. elim (only l c) [
        | inl m ↦ let r = (rest l).0 m in inl (r.0, λ h. r.1 (among' l h))
        | inr b ↦ inr (b.0, subst (λ (ps : List Placed). Contains ps b.0) born_is b.1, b.2)
      ];
      count = omega (arith, fewer, more, ap length dropped_is, ap length born_is);
    }
