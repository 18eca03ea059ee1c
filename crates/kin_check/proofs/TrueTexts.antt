-- A script has no line that is the one byte =, so its text is a true claim after one.
use Rattle.std.proofs.Common.{◌≡◌, refl, sym, ap, ◌∙◌, subst, arith, inl, inr, ◌⊎◌, List, [], ◌∷◌, ◌++◌, ℕ, zero, suc, ◌+◌, ◌-◌, ◌<◌, Bool, true, false, cond, length, take, codes, append_assoc, length-append, Option, Some, None, Ok}
use Rattle.std.specs.List.{AllZip, onto_first, slice_split}
use Rattle.std.proofs.lemmas.Bool.{cases_lt}
use Rattle.std.proofs.lemmas.List.{same_from_push, take_at}
use Rattle.kin_script.specs.Commands.{command_of, header_line_of, size_of}
use Rattle.kin_script.specs.declared.command.Command.{Command}
use Rattle.kin_script.specs.declared.line.HeaderLine.{HeaderLine}
use Rattle.kin_script.specs.declared.script.Script.{Script}
use Rattle.kin_script.specs.Grammar.{script_of}
use Rattle.kin_script.specs.Left.{Numbered, numbered}
use Rattle.kin_script.specs.Lines.{Word, is_line_feed, is_nil, lines_of, pieces_of, without_empty_end, words_of}
use Rattle.kin_script.specs.Questions.{question_of}
use Rattle.kin_script.specs.Written.{IsWritten, SaysCommand, SaysHeaderLine}
use Rattle.kin_script.proofs.Theorems.{scripts_are_written}
use Rattle.kin_check.specs.Splits.{IsBeforePiece, IsMark, IsTrueClaim}
use Rattle.kin_check.specs.Truths.{TextsAreTrue}
use Rattle.kin_script.specs.Inputs.{IsTextOf}
use Rattle.kin_script.specs.Text.{Ending}
use Rattle.kin_check.proofs.LastLines.{text_of_closed}

-- ---- one of these pieces, or of those after the first, is the one byte =
abbrev Has : List (List ℕ) → Type 0
Has [] = ⊥
Has (l ∷ ls) = (l ≡ codes "=") ⊎ Has ls

abbrev HasAfter : List (List ℕ) → Type 0
HasAfter [] = ⊥
HasAfter (l ∷ ls) = Has ls

any : (ps : List (List ℕ)) → HasAfter ps → Has ps
any [] h = absurd h
any (p ∷ ps) h = inr h

onto : (b : ℕ) (ps : List (List ℕ)) → HasAfter ps → HasAfter (onto_first b ps)
onto b [] h = absurd h
onto b (p ∷ ps) h = h

one_more : (feed : Bool) (b : ℕ) (ps : List (List ℕ)) → HasAfter ps → HasAfter (cond feed ([] ∷ ps) (onto_first b ps))
one_more true b ps h = any ps h
one_more false b ps h = onto b ps h

after_feed : (xs rest : List ℕ) → Has (slice_split is_line_feed rest) → HasAfter (slice_split is_line_feed (xs ++ (codes "\n" ++ rest)))
after_feed [] rest h = h
after_feed (x ∷ xs) rest h = one_more (is_line_feed x) x (slice_split is_line_feed (xs ++ (codes "\n" ++ rest))) (after_feed xs rest h)

at_front : (more : List ℕ) → Has (slice_split is_line_feed (codes "=\n" ++ more))
at_front more = inl refl

pieces : (before more : List ℕ) → IsBeforePiece before → Has (slice_split is_line_feed (before ++ (codes "=\n" ++ more)))
pieces before more (inl none) = subst (λ (b : List ℕ). Has (slice_split is_line_feed (b ++ (codes "=\n" ++ more)))) (sym none) (at_front more)
pieces before more (inr (xs, e)) =
    let joined : before ++ (codes "=\n" ++ more) ≡ xs ++ (codes "\n" ++ (codes "=\n" ++ more)) =
    ap (λ (b : List ℕ). b ++ (codes "=\n" ++ more)) e ∙ append_assoc xs (codes "\n") (codes "=\n" ++ more) in
    subst (λ (bytes : List ℕ). Has (slice_split is_line_feed bytes)) (sym joined) (any (slice_split is_line_feed (xs ++ (codes "\n" ++ (codes "=\n" ++ more))))
    (after_feed xs (codes "=\n" ++ more) (at_front more)))

kept : (ps : List (List ℕ)) → Has ps → Has (without_empty_end ps)
kept [] h = absurd h
kept ([] ∷ []) (inl e) = absurd (let count = ap (λ (w : List ℕ). length w) e in omega (arith, count))
kept ([] ∷ []) (inr h) = absurd h
kept ((b ∷ bs) ∷ []) h = h
kept (p ∷ q ∷ ps) (inl e) = inl e
kept (p ∷ q ∷ ps) (inr h) = inr (kept (q ∷ ps) h)

lined : (bytes : List ℕ) → Has (slice_split is_line_feed bytes) → Has (lines_of bytes)
unfolding lines_of
lined bytes h = kept (slice_split is_line_feed bytes) h

-- ---- one of these lines has the one word =
abbrev HasLine : List Numbered → Type 0
HasLine [] = ⊥
HasLine (l ∷ ls) = (l.1 ≡ codes "=" ∷ []) ⊎ HasLine ls

words : words_of (codes "=") ≡ codes "=" ∷ []
unfolding words_of pieces_of
words = refl

this : (n : ℕ) (ws : List Word) (ls ks : List Numbered) → ws ≡ codes "=" ∷ [] → HasLine (cond (is_nil ws) ls ((n, ws) ∷ ks))
this n [] ls ks e = absurd (let count = ap (λ (v : List Word). length v) e in omega (arith, count))
this n (w ∷ ws) ls ks e = inl e

later : (n : ℕ) (ws : List Word) (ls : List Numbered) → HasLine ls → HasLine (cond (is_nil ws) ls ((n, ws) ∷ ls))
later n [] ls h = h
later n (w ∷ ws) ls h = inr h

named : (n : ℕ) (ls : List (List ℕ)) → Has ls → HasLine (numbered n ls)
unfolding numbered
named n [] h = absurd h
named n (l ∷ ls) (inl e) = this n (words_of l) (numbered (n + 1) ls) (numbered (n + 1) ls) (ap words_of e ∙ words)
named n (l ∷ ls) (inr h) = later n (words_of l) (numbered (n + 1) ls) (named (n + 1) ls h)

-- ---- no line of a script has it
abbrev IsNothing : {A : Type 0} → Option A → Type 0
IsNothing None = Unit {0}
IsNothing (Some x) = ⊥

none_some : {A : Type 0} {x : A} → ¬ (None ≡ Some x)
none_some {A} e = subst (λ (o : Option A). IsNothing o) e tt

no_size : size_of (codes "=" ∷ []) ≡ None
unfolding size_of
no_size = refl

no_header : header_line_of (codes "=" ∷ []) ≡ None
unfolding header_line_of
no_header = refl

no_command : (size : ℕ) → command_of size (codes "=" ∷ []) ≡ None
unfolding command_of question_of
no_command size = refl

in_header : (ls : List Numbered) (hs : List HeaderLine) → AllZip SaysHeaderLine ls hs → ¬ (HasLine ls)
in_header [] hs a h = h
in_header (l ∷ ls) [] a h = a
in_header (l ∷ ls) (x ∷ hs) a (inl e) = none_some (sym no_header ∙ ap header_line_of (sym e) ∙ a.0)
in_header (l ∷ ls) (x ∷ hs) a (inr h) = in_header ls hs a.1 h

in_commands : (size : ℕ) (ls : List Numbered) (cs : List (ℕ × Command)) → AllZip (SaysCommand size) ls cs → ¬ (HasLine ls)
in_commands size [] cs a h = h
in_commands size (l ∷ ls) [] a h = a
in_commands size (l ∷ ls) (c ∷ cs) a (inl e) = none_some (sym (no_command size) ∙ ap (command_of size) (sym e) ∙ a.0.1)
in_commands size (l ∷ ls) (c ∷ cs) a (inr h) = in_commands size ls cs a.1 h

in_either : (xs ys : List Numbered) → HasLine (xs ++ ys) → HasLine xs ⊎ HasLine ys
in_either [] ys h = inr h
in_either (x ∷ xs) ys (inl e) = inl (inl e)
in_either (x ∷ xs) ys (inr h) = elim (in_either xs ys h) [
  | inl a ↦ inl (inr a)
  | inr b ↦ inr b
]

unwritten : (ls : List Numbered) (s : Script) → IsWritten ls s → ¬ (HasLine ls)
unwritten ls s w h = elim (subst HasLine w.parts h) [
  | inl e ↦ none_some (sym no_size ∙ ap size_of (sym e) ∙ w.size)
  | inr more ↦ elim (in_either w.header w.commands more) [
    | inl a ↦ in_header w.header w.header_lines w.header_says a
    | inr b ↦ in_commands s.size w.commands s.lines w.commands_say b
  ]
]

outside : (before more : List ℕ) (s : Script) → IsBeforePiece before → ¬ (script_of (before ++ (codes "=\n" ++ more)) ≡ Ok s)
outside before more s begins e =
    let bytes : List ℕ = before ++ (codes "=\n" ++ more) in
    unwritten (numbered 1 (lines_of bytes)) s ((scripts_are_written bytes s).0 e) (named 1 (lines_of bytes) (lined bytes (pieces before more begins)))

-- ---- so the first one is after the script
take_after : (xs ys : List ℕ) (n : ℕ) → take (length xs + n) (xs ++ ys) ≡ xs ++ take n ys
take_after [] ys n = let none : 0 + n ≡ n = omega arith in ap (λ (k : ℕ). take k ys) none
take_after (x ∷ xs) ys n = let more : length (x ∷ xs) + n ≡ suc (length xs + n) = omega arith in ap (λ (k : ℕ). take k (x ∷ (xs ++ ys))) more ∙ ap (λ (l : List ℕ). x ∷ l) (take_after xs ys n)

-- a front of the same bytes that is longer by so many
longer : (input more before rest : List ℕ) (n : ℕ) → input ++ more ≡ before ++ rest → length input ≡ length before + n → input ≡ before ++ take n rest
longer input more before rest n same size =
    sym (take_at input more (length input) refl) ∙ ap (take (length input)) same ∙ ap (λ (k : ℕ). take k (before ++ rest)) size ∙ take_after before rest n

feed_is_no_mark : (xs ys : List ℕ) → ¬ (xs ++ codes "\n" ≡ ys ++ codes "=")
feed_is_no_mark xs ys e = let same = (same_from_push xs ys 10 61 e).1 in absurd (omega (arith, same))

module _ (input text : List ℕ) (s : Script) (begins : IsBeforePiece input) (reads : script_of input ≡ Ok s) (before after : List ℕ) where
  sooner : (n : ℕ) → 0 < n → length input ≡ length before + n → IsBeforePiece before → input ++ (codes "=\n" ++ text) ≡ before ++ (codes "=\n" ++ after) → ⊥
  sooner zero some size first same = absurd (omega (arith, some))
  sooner (suc zero) some size first same =
      let is : input ≡ before ++ codes "=" = longer input (codes "=\n" ++ text) before (codes "=\n" ++ after) 1 same size in
      elim begins [
        | inl none ↦ absurd (let count = ap (λ (b : List ℕ). length b) none in omega (arith, size, count))
        | inr feed ↦ feed_is_no_mark feed.0 before (sym feed.1 ∙ is)
      ]
  sooner (suc (suc k)) some size first same =
      let is : input ≡ before ++ (codes "=\n" ++ take k after) = longer input (codes "=\n" ++ text) before (codes "=\n" ++ after) (suc (suc k)) same size in
      outside before (take k after) s first (ap script_of (sym is) ∙ reads)

  -- no mark is in the script
  none_sooner : (rest : List ℕ) → input ++ (codes "=\n" ++ text) ≡ before ++ rest → IsBeforePiece before → IsMark rest after → ¬ (length before < length input)
  none_sooner rest same first (inl e) low =
      sooner (length input - length before) (omega (arith, low)) (omega (arith, low)) first (same ∙ ap (λ (r : List ℕ). before ++ r) e)
  none_sooner rest same first (inr e) low =
      let all = sym (length-append input (codes "=\n" ++ text)) ∙ ap (λ (b : List ℕ). length b) same ∙ length-append before rest in
      let one = ap (λ (b : List ℕ). length b) e.0 in
      absurd (omega (arith, low, all, one))

claim_is_true : (input text : List ℕ) (ending : Ending) → IsBeforePiece input → IsTextOf input text ending → IsTrueClaim (input ++ (codes "=\n" ++ text))
claim_is_true input text ending begins is = (
  input,
  text,
  record {
    parted = record { rest = codes "=\n" ++ text; joined = refl; begins = begins; mark = inl refl };
    first = λ before after p. elim (cases_lt (length before) (length input)) [
      | inl low ↦ absurd (none_sooner input text is.script begins is.reads before after p.rest p.joined p.begins p.mark low)
      | inr high ↦ high
    ];
  },
  inl (ending, is),
)

pub texts_are_true : TextsAreTrue
texts_are_true input closed text ending (inl (begins, same)) is =
    subst (λ (bytes : List ℕ). IsTrueClaim (bytes ++ (codes "=\n" ++ text))) (sym same) (claim_is_true input text ending begins is)
texts_are_true input closed text ending (inr (loose, same)) is =
    subst (λ (bytes : List ℕ). IsTrueClaim (bytes ++ (codes "=\n" ++ text))) (sym same)
    (claim_is_true (input ++ codes "\n") text ending (inr (input, refl)) (text_of_closed input text ending loose is))
