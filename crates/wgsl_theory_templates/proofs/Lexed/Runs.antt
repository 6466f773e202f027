-- A text that lexes along kinds in which the template lists are told apart has tokens of these
-- kinds.
use Rattle.std.proofs.Common.{◌≡◌, ℕ, zero, suc, Bool, true, false, ◌+◌, ◌≤◌, List, [], ◌∷◌, ◌++◌, map, take, drop, length, refl, sym, ap, ap₂, subst, ◌∙◌, append_assoc, arith}
use Rattle.std.proofs.lemmas.List.{map-append}
use Rattle.grammar.specs.Tokens.{Token}
use Rattle.grammar.specs.Endings.{Ending.finished}
use Rattle.grammar.proofs.Reading.Sets.{clash}
use Rattle.wgsl_model.specs.Tokens.ClassTable.{SymLessThan, TemplateArgsStart, TemplateArgsEnd}
use Rattle.wgsl_model.specs.Tokens.Kind.{Kind, plain}
use Rattle.wgsl_model.specs.Tokens.Raw.{none_left, token, raw}
use Rattle.wgsl_model.specs.Tokens.Templates.{is_word, begins_with_greater, goes_on, NoTemplate, Inside, at_greater, at_opening, at_closing, at_template, at_other, enclosed, Template}
use Rattle.wgsl_model.specs.Tokens.TokenList.{TokensOf, at_end, before_template, before_more}
use Rattle.wgsl_theory_grammar.proofs.Tokens.Bounds.{template_is}
use Rattle.wgsl_theory_grammar.proofs.Tokens.Classes.{word_goes_on, opening_word, closing_word}
use Rattle.wgsl_theory_grammar.proofs.Tokens.Decided.{enclosed_kind}
use Rattle.wgsl_theory_grammar.proofs.Tokens.Inside.{at, After, after_list, after_none, step_at, from_greater, from_opening, from_closing, from_short_circuit, from_other}
use Rattle.wgsl_theory_grammar.proofs.Tokens.Unique.{marked, template_unique}
use Rattle.wgsl_theory_reread.specs.CanonicalUnits.{without_place}
use Rattle.wgsl_theory_templates.proofs.Reaching.Reach.{Role, Role.name, Role.keyword, Role.greater, Role.greater_stop, Role.stop, Role.other, Role.template_start, Role.template_end, role, Place, Place.outside, Place.inside, reach_role, reach, ahead_role, ahead}
use Rattle.wgsl_theory_templates.proofs.Lexed.Shapes.{is_word_role, is_greater_role, is_plain_role, shape_end, shape_opening, shape_closing, shape_greater, shape_short_circuit, shape_plain, shape_word, shape_template, deeper, DerivesAnywhere, NoListReached, IsWrittenShape}
use Rattle.wgsl_theory_templates.proofs.Lexed.RoleClasses.{is_mark_role, word_class, greater_class, plain_class, opening_class, closing_class, short_circuit_class, plain_goes_on, greater_goes_on, short_circuit_goes_on, word_unmarked, greater_unmarked, plain_unmarked, greater_no_word, short_circuit_no_word}
use Rattle.wgsl_theory_templates.proofs.Lexed.PassedOver.{balanced}
use Rattle.wgsl_theory_templates.proofs.Lexed.NoStops.{is_stop_role, NoStop, no_stops}
use Rattle.wgsl_theory_templates.proofs.Lexed.LexedAlong.{along_role, AlongTo, Along, EndOf, token_of, to_template_end}

-- ---- what a token of a list of expressions is to the search
word_reach : (r : Role) → is_word_role r ≡ true → is_stop_role r ≡ false
    → (d : ℕ) (next : ℕ → ℕ → Bool) → reach_role r 0 d next ≡ next 0 d
word_reach name e n d next = refl
word_reach keyword e n d next = absurd cc
word_reach r e n d next = absurd cc

plain_reach : (r : Role) → is_plain_role r ≡ true → is_stop_role r ≡ false
    → (d : ℕ) (next : ℕ → ℕ → Bool) → reach_role r 0 d next ≡ next 0 d
plain_reach other e n d next = refl
plain_reach stop e n d next = absurd cc
plain_reach r e n d next = absurd cc

greater_found : (r : Role) → is_greater_role r ≡ true → (next : ℕ → ℕ → Bool) → reach_role r 0 0 next ≡ true
greater_found greater e next = refl
greater_found greater_stop e next = refl
greater_found r e next = absurd cc

greater_reach : (r : Role) → is_greater_role r ≡ true → is_stop_role r ≡ false
    → (d : ℕ) (next : ℕ → ℕ → Bool) → reach_role r 0 (suc d) next ≡ next 0 (suc d)
greater_reach greater e n d next = refl
greater_reach greater_stop e n d next = absurd cc
greater_reach r e n d next = absurd cc

-- ---- how many tokens come before the one that is reached
word_count : (r : Role) → is_word_role r ≡ true → is_stop_role r ≡ false
    → (d : ℕ) (next : ℕ → ℕ → ℕ) → ahead_role r 0 d next ≡ suc (next 0 d)
word_count name e n d next = refl
word_count keyword e n d next = absurd cc
word_count r e n d next = absurd cc

plain_count : (r : Role) → is_plain_role r ≡ true → is_stop_role r ≡ false
    → (d : ℕ) (next : ℕ → ℕ → ℕ) → ahead_role r 0 d next ≡ suc (next 0 d)
plain_count other e n d next = refl
plain_count stop e n d next = absurd cc
plain_count r e n d next = absurd cc

greater_counted : (r : Role) → is_greater_role r ≡ true → (next : ℕ → ℕ → ℕ) → ahead_role r 0 0 next ≡ 0
greater_counted greater e next = refl
greater_counted greater_stop e next = refl
greater_counted r e next = absurd cc

greater_count : (r : Role) → is_greater_role r ≡ true → is_stop_role r ≡ false
    → (d : ℕ) (next : ℕ → ℕ → ℕ) → ahead_role r 0 (suc d) next ≡ suc (next 0 (suc d))
greater_count greater e n d next = refl
greater_count greater_stop e n d next = absurd cc
greater_count r e n d next = absurd cc

-- ---- how many brackets are open
-- inside a template list no more are open from the `<` on than in the whole
abbrev Within : Place → ℕ → ℕ → Type 0
Within outside d depth = Unit {0}
Within inside d depth = d ≤ depth

within_start : (p : Place) (depth : ℕ) → Within p 0 depth
within_start outside depth = tt
within_start inside depth = omega arith

within_opening : (p : Place) (d depth : ℕ) → Within p d depth → Within p (suc d) (deeper p depth)
within_opening outside d depth w = tt
within_opening inside d depth w = omega (arith, w)

within_closing : (p : Place) (d depth deep : ℕ) → deep ≡ deeper p depth → Within p (suc d) deep → Within p d depth
within_closing outside d depth deep e w = tt
within_closing inside d depth deep e w = omega (arith, e, w)

-- kinds up to one after others
take_over : (us : List Kind) (n : ℕ) (k : Kind) (ks : List Kind)
    → take (length us + suc n) (us ++ (k ∷ ks)) ≡ us ++ (k ∷ take n ks)
take_over [] n k ks = let one : 0 + suc n ≡ suc n = omega arith in ap (λ (m : ℕ). take m (k ∷ ks)) one
take_over (u ∷ us) n k ks =
    let more : suc (length us) + suc n ≡ suc (length us + suc n) = omega arith in
    ap (λ (m : ℕ). take m (u ∷ (us ++ (k ∷ ks)))) more ∙ ap (λ (l : List Kind). u ∷ l) (take_over us n k ks)

-- a template list in the kinds is passed over
template_reach : (p : Place) (d : ℕ) (start end : Kind) (us ts : List Kind)
    → role start.class ≡ template_start → role end.class ≡ template_end → IsWrittenShape inside 0 us
    → reach p 0 d (start ∷ (us ++ (end ∷ ts))) ≡ reach p 0 d ts
template_reach p d start end us ts e f s =
    ap (λ (r : Role). reach_role r 0 d (λ i j. reach p i j (us ++ (end ∷ ts)))) e
    ∙ (balanced s).reached p 0 d (end ∷ ts) ∙ ap (λ (r : Role). reach_role r 1 d (λ i j. reach p i j ts)) f

template_count : (d : ℕ) (start end : Kind) (us ts : List Kind) → role start.class ≡ template_start
    → role end.class ≡ template_end → IsWrittenShape inside 0 us
    → ahead 0 d (start ∷ (us ++ (end ∷ ts))) ≡ suc (length us + suc (ahead 0 d ts))
template_count d start end us ts e f s =
    ap (λ (r : Role). ahead_role r 0 d (λ i j. ahead i j (us ++ (end ∷ ts)))) e
    ∙ ap (λ (n : ℕ). suc n) ((balanced s).counted 0 d (end ∷ ts)
    ∙ ap (λ (r : Role). length us + ahead_role r 1 d (λ i j. ahead i j ts)) f)

module _ (total : ℕ) where
  abbrev In : ℕ → List ℕ → List Token → List ℕ → Type 0
  In d text ts end = Inside total (Template total) d text ts end

  -- what a run does not stop at, at its first token and after it
  no_stop_after : (k : Kind) (from after : List ℕ) (ts us : List Token)
      → ts ≡ at total k from after ∷ us → NoStop (map without_place ts)
      → (is_stop_role (role k.class) ≡ false) × NoStop (map without_place us)
  no_stop_after k from after ts us e n = subst (λ (x : List Token). NoStop (map without_place x)) e n

  no_stop_end : (us ts : List Token) → NoStop (map without_place (us ++ ts)) → NoStop (map without_place ts)
  no_stop_end [] ts n = n
  no_stop_end (u ∷ us) ts n = no_stop_end us ts n.1

  -- after a token that is no word no template list is
  no_list : (word : Bool) (d : ℕ) (text : List ℕ) (ts : List Token) (end : List ℕ) → word ≡ false
      → After total (Template total) word d text ts end → In d text ts end
  no_list word d text ts end e (after_list w us vs rest q f h) = clash word w e
  no_list word d text ts end e (after_none n h) = h

  -- a run comes to a token that begins with `>`, and its tokens are those before it
  abbrev Runs : Place → ℕ → List Kind → List Token → Type 0
  Runs p d ks ts = (reach p 0 d ks ≡ true) × (map without_place ts ≡ take (ahead 0 d ks) ks)

  -- a token more
  one_more : (k : Kind) (ks : List Kind) (from after : List ℕ) (ts us : List Token) (m n : ℕ)
      → ts ≡ at total k from after ∷ us → m ≡ suc n → map without_place us ≡ take n ks
      → map without_place ts ≡ take m (k ∷ ks)
  one_more k ks from after ts us m n e q h = ap (map without_place) e
      ∙ ap (λ (x : List Kind). k ∷ x) h ∙ sym (ap (λ (i : ℕ). take i (k ∷ ks)) q)

  -- a run over kinds, and the text after the character that ends it
  abbrev Found : ℕ → List Kind → (List ℕ → Type 0) → List ℕ → Type 0
  Found depth ks Rest text = (ts : List Token) × (end : List ℕ) × In depth text ts end
      × (map without_place ts ≡ ks) × Rest (drop 1 end)

  -- a template list with its kinds, and what follows it
  record FoundList (ks : List Kind) (Rest : List ℕ → Type 0) (text : List ℕ) : Type 0 where
    pub tokens : List Token
    pub rest : List ℕ
    pub list : Template total text tokens rest
    pub kinds : map without_place tokens ≡ ks
    pub further : Rest rest

  found_list : (start end : Kind) (us ts : List Kind) (End : List ℕ → Type 0) (text : List ℕ)
      → role start.class ≡ template_start → role end.class ≡ template_end → DerivesAnywhere us
      → ((Rest : List ℕ → Type 0) (after : List ℕ) → AlongTo us (EndOf inside Rest) after → Found 0 us Rest after)
      → AlongTo (start ∷ (us ++ (end ∷ ts))) End text
      → FoundList (start ∷ (us ++ (end ∷ []))) (λ rest. AlongTo ts End rest) text
  found_list start end us ts End text e f l go h =
      let a = subst (λ (r : Role). along_role r start (λ rest. AlongTo (us ++ (end ∷ ts)) End rest) text) e h in
      let w = go (λ rest. (end ≡ plain TemplateArgsEnd) × AlongTo ts End rest) a.2
      (to_template_end us end ts End a.2 f a.5.1) in
      let v = l w.0 w.3 in
      record {
        tokens = marked total a.1 a.2 w.0 w.1;
        rest = drop 1 w.1;
        list = (template_is total text (marked total a.1 a.2 w.0 w.1) (drop 1 w.1)).1
            (enclosed text a.1 a.2 w.1 a.0 w.0 v.0 a.3 a.4 w.2 v.1);
        kinds = ap (λ (x : List Kind). plain TemplateArgsStart ∷ x)
            (map-append without_place w.0 (at total (plain TemplateArgsEnd) w.1 (drop 1 w.1) ∷ [])
            ∙ ap₂ (λ (x : List Kind) (k : Kind). x ++ (k ∷ [])) w.3 (sym w.4.0))
            ∙ ap (λ (k : Kind). k ∷ (us ++ (end ∷ []))) (sym a.5.0);
        further = w.4.1;
      }

  -- a `<` after which a template list is is the first kind
  refuse : (p : Place) (k : Kind) (ks : List Kind) (End : List ℕ → Type 0) (text : List ℕ)
      → is_mark_role (role k.class) ≡ false → NoListReached p (k ∷ ks) → AlongTo (k ∷ ks) End text
      → ((after : List ℕ) (ts : List Token) (end : List ℕ) → AlongTo ks End after
      → In 0 after ts end → NoStop (map without_place ts) → Runs p 0 ks ts)
      → (us : List Token) (rest : List ℕ) → Template total text us rest → ⊥
  refuse p k ks End text u never h go us rest q =
      let e = enclosed_kind total (Template total) text us rest ((template_is total text us rest).0 q) in
      let w = token_of (role k.class) k (λ x. AlongTo ks End x) text u h in
      let same : token k w.0 w.1 ≡ token e.3 e.0 e.1 = sym w.2 ∙ e.5 in
      let kind : k ≡ e.3 = cc in
      let after : e.1 ≡ w.1 = cc in
      let less : k.class ≡ SymLessThan = ap (λ (x : Kind). x.class) kind ∙ e.6 in
      let r = go w.1 e.4 e.2 w.3 (subst (λ (x : List ℕ). In 0 x e.4 e.2) after e.7) (no_stops e.8.0 e.4 e.8.1) in
      never less r.0 e.4 r.1 e.8

  -- a word is no `<`
  no_word : (k : Kind) (ks : List Kind) (End : List ℕ → Type 0) (text : List ℕ)
      → is_word_role (role k.class) ≡ true → AlongTo (k ∷ ks) End text
      → (us : List Token) (rest : List ℕ) → Template total text us rest → ⊥
  no_word k ks End text w h us rest q =
      let e = enclosed_kind total (Template total) text us rest ((template_is total text us rest).0 q) in
      let a = token_of (role k.class) k (λ x. AlongTo ks End x) text (word_unmarked (role k.class) w) h in
      let same : token k a.0 a.1 ≡ token e.3 e.0 e.1 = sym a.2 ∙ e.5 in
      let kind : k ≡ e.3 = cc in
      let less : k.class ≡ SymLessThan = ap (λ (x : Kind). x.class) kind ∙ e.6 in
      clash _ w (ap (λ (c : ℕ). is_word_role (role c)) less)

  -- what ends the kinds is no `<`
  no_end : (p : Place) (Rest : List ℕ → Type 0) (text : List ℕ) → EndOf p Rest text
      → (us : List Token) (rest : List ℕ) → Template total text us rest → ⊥
  no_end outside Rest text h us rest q =
      let e = enclosed_kind total (Template total) text us rest ((template_is total text us rest).0 q) in
      let same : none_left ≡ token e.3 e.0 e.1 = sym h ∙ e.5 in cc
  no_end inside Rest text h us rest q =
      let e = enclosed_kind total (Template total) text us rest ((template_is total text us rest).0 q) in
      let same : token h.0 h.1 h.2 ≡ token e.3 e.0 e.1 = sym h.3 ∙ e.5 in
      let kind : h.0 ≡ e.3 = cc in
      let less : h.0.class ≡ SymLessThan = ap (λ (x : Kind). x.class) kind ∙ e.6 in
      clash _ h.4 (ap (λ (c : ℕ). begins_with_greater c) less)

  -- what is in a template list and after it, as kinds
  join_kinds : (k start end : Kind) (us ks : List Kind) (vs ts : List Token)
      → map without_place vs ≡ start ∷ (us ++ (end ∷ [])) → map without_place ts ≡ ks
      → k ∷ map without_place (vs ++ ts) ≡ k ∷ (start ∷ (us ++ (end ∷ ks)))
  join_kinds k start end us ks vs ts e f =
      ap (λ (x : List Kind). k ∷ x) (map-append without_place vs ts ∙ ap₂ (λ (x y : List Kind). x ++ y) e f
      ∙ ap (λ (x : List Kind). start ∷ x) (append_assoc us (end ∷ []) ks))

  -- a token that is taken as it is, before a run
  found_other : (depth : ℕ) (k : Kind) (ks : List Kind) (Rest : List ℕ → Type 0) (text from after : List ℕ)
      → raw text ≡ token k from after → goes_on depth k.class ≡ true
      → (is_word k.class ≡ true → NoTemplate (Template total) after)
      → Found depth ks Rest after → Found depth (k ∷ ks) Rest text
  found_other depth k ks Rest text from after e o n g = (
    at total k from after ∷ g.0,
    g.1,
    at_other depth text from after g.1 k g.0 e o n g.2,
    ap (λ (x : List Kind). k ∷ x) g.3,
    g.4,
  )

  mutual
    -- a run that finds a token that begins with `>` is seen by computation
    run : {p : Place} {depth : ℕ} {ks : List Kind} → IsWrittenShape p depth ks
        → (Rest : List ℕ → Type 0) (d : ℕ) (text : List ℕ) (ts : List Token) (end : List ℕ)
        → Within p d depth → AlongTo ks (EndOf p Rest) text → In d text ts end
        → NoStop (map without_place ts) → Runs p d ks ts
    run (shape_end {p = outside}) Rest d text ts end l h i n =
        absurd (step_at total (Template total) d text ts end none_left h i)
    run (shape_end {p = inside}) Rest zero text ts end l h i n = (
      refl,
      ap (map without_place) (from_greater total (Template total) h.0 h.1 h.2 ts end h.4
          (step_at total (Template total) 0 text ts end (token h.0 h.1 h.2) h.3 i)).0,
    )
    run (shape_end {p = inside}) Rest (suc d) text ts end l h i n = absurd (omega (arith, l))
    run (shape_opening {p = p} {depth = depth} {t = t} {ts = ks} e s) Rest d text ts end l h i n =
        let w = token_of (role t.class) t (λ x. AlongTo ks (EndOf p Rest) x) text (ap is_mark_role e) h in
        let b = from_opening total (Template total) d t w.0 w.1 ts end (opening_class t.class e)
        (step_at total (Template total) d text ts end (token t w.0 w.1) w.2 i) in
        let r = run s Rest (suc d) w.1 b.0 end (within_opening p d depth l) w.3 b.2
        (no_stop_after t w.0 w.1 ts b.0 b.1 n).1 in (
          ap (λ (r : Role). reach_role r 0 d (λ j m. reach p j m ks)) e ∙ r.0,
          one_more t ks w.0 w.1 ts b.0 _ _ b.1
              (ap (λ (r : Role). ahead_role r 0 d (λ j m. ahead j m ks)) e) r.1,
        )
    run (shape_closing {p = p} {t = t} {ts = ks} e f s) Rest zero text ts end l h i n =
        let w = token_of (role t.class) t (λ x. AlongTo ks (EndOf p Rest) x) text (ap is_mark_role e) h in
        let b = from_closing total (Template total) 0 t w.0 w.1 ts end (closing_class t.class e)
        (step_at total (Template total) 0 text ts end (token t w.0 w.1) w.2 i) in
        let g = b.1 in absurd cc
    run (shape_closing {p = p} {depth = depth} {deep = deep} {t = t} {ts = ks} e f s) Rest (suc d) text ts end l h i n =
        let w = token_of (role t.class) t (λ x. AlongTo ks (EndOf p Rest) x) text (ap is_mark_role e) h in
        let b = from_closing total (Template total) (suc d) t w.0 w.1 ts end (closing_class t.class e)
        (step_at total (Template total) (suc d) text ts end (token t w.0 w.1) w.2 i) in
        let g = b.1 in
        let same : b.0 ≡ d = cc in
        let r = run s Rest d w.1 b.2 end (within_closing p d depth deep f l) w.3
        (subst (λ (x : ℕ). In x w.1 b.2 end) same b.4) (no_stop_after t w.0 w.1 ts b.2 b.3 n).1 in (
          ap (λ (r : Role). reach_role r 0 (suc d) (λ j m. reach p j m ks)) e ∙ r.0,
          one_more t ks w.0 w.1 ts b.2 _ _ b.3
              (ap (λ (r : Role). ahead_role r 0 (suc d) (λ j m. ahead j m ks)) e) r.1,
        )
    run (shape_greater {p = p} {t = t} {ts = ks} e m s) Rest zero text ts end l h i n =
        let w = token_of (role t.class) t (λ x. AlongTo ks (EndOf p Rest) x) text
        (greater_unmarked (role t.class) e) h in
        let b = from_greater total (Template total) t w.0 w.1 ts end (greater_class t.class e)
        (step_at total (Template total) 0 text ts end (token t w.0 w.1) w.2 i) in (
          greater_found (role t.class) e (λ j m. reach p j m ks),
          ap (map without_place) b.0
              ∙ sym (ap (λ (m : ℕ). take m (t ∷ ks)) (greater_counted (role t.class) e (λ j m. ahead j m ks))),
        )
    run (shape_greater {p = p} {t = t} {ts = ks} e m s) Rest (suc d) text ts end l h i n =
        let w = token_of (role t.class) t (λ x. AlongTo ks (EndOf p Rest) x) text
        (greater_unmarked (role t.class) e) h in
        let b = from_other total (Template total) (suc d) t w.0 w.1 ts end (greater_goes_on d t.class
        (greater_class t.class e)) (step_at total (Template total) (suc d) text ts end (token t w.0 w.1) w.2 i) in
        let f = no_stop_after t w.0 w.1 ts b.0 b.1 n in
        let r = run s Rest (suc d) w.1 b.0 end l w.3 (no_list (is_word t.class) (suc d) w.1 b.0 end
        (greater_no_word t.class (greater_class t.class e)) b.2) f.1 in (
          greater_reach (role t.class) e f.0 d (λ j m. reach p j m ks) ∙ r.0,
          one_more t ks w.0 w.1 ts b.0 _ _ b.1
              (greater_count (role t.class) e f.0 d (λ j m. ahead j m ks)) r.1,
        )
    run (shape_short_circuit {p = p} {t = t} {ts = ks} e m s) Rest zero text ts end l h i n =
        let w = token_of (role t.class) t (λ x. AlongTo ks (EndOf p Rest) x) text (ap is_mark_role e) h in
        absurd (from_short_circuit total (Template total) t w.0 w.1 ts end (short_circuit_class t.class e)
        (step_at total (Template total) 0 text ts end (token t w.0 w.1) w.2 i))
    run (shape_short_circuit {p = p} {t = t} {ts = ks} e m s) Rest (suc d) text ts end l h i n =
        let w = token_of (role t.class) t (λ x. AlongTo ks (EndOf p Rest) x) text (ap is_mark_role e) h in
        let b = from_other total (Template total) (suc d) t w.0 w.1 ts end
        (short_circuit_goes_on d t.class (short_circuit_class t.class e))
        (step_at total (Template total) (suc d) text ts end (token t w.0 w.1) w.2 i) in
        let r = run s Rest (suc d) w.1 b.0 end l w.3 (no_list (is_word t.class) (suc d) w.1 b.0 end
        (short_circuit_no_word t.class (short_circuit_class t.class e)) b.2)
        (no_stop_after t w.0 w.1 ts b.0 b.1 n).1 in (
          ap (λ (r : Role). reach_role r 0 (suc d) (λ j m. reach p j m ks)) e ∙ r.0,
          one_more t ks w.0 w.1 ts b.0 _ _ b.1
              (ap (λ (r : Role). ahead_role r 0 (suc d) (λ j m. ahead j m ks)) e) r.1,
        )
    run (shape_plain {p = p} {t = t} {ts = ks} e s) Rest d text ts end l h i n =
        let w = token_of (role t.class) t (λ x. AlongTo ks (EndOf p Rest) x) text (plain_unmarked (role t.class) e) h in
        let c = plain_class t.class e in
        let b = from_other total (Template total) d t w.0 w.1 ts end (plain_goes_on d t.class c)
        (step_at total (Template total) d text ts end (token t w.0 w.1) w.2 i) in
        let f = no_stop_after t w.0 w.1 ts b.0 b.1 n in
        let r = run s Rest d w.1 b.0 end l w.3 (no_list (is_word t.class) d w.1 b.0 end c.0 b.2) f.1 in (
          plain_reach (role t.class) e f.0 d (λ j m. reach p j m ks) ∙ r.0,
          one_more t ks w.0 w.1 ts b.0 _ _ b.1
              (plain_count (role t.class) e f.0 d (λ j m. ahead j m ks)) r.1,
        )
    run (shape_word {p = p} {t = t} {ts = ks} e c s) Rest d text ts end l h i n =
        let w = token_of (role t.class) t (λ x. AlongTo ks (EndOf p Rest) x) text (word_unmarked (role t.class) e) h in
        let b = from_other total (Template total) d t w.0 w.1 ts end (word_goes_on d t.class
        (word_class t.class e)) (step_at total (Template total) d text ts end (token t w.0 w.1) w.2 i) in
        let f = no_stop_after t w.0 w.1 ts b.0 b.1 n in
        elim b.2 [
          | after_list _ us vs rest q _ _ ↦ absurd (neg s c Rest w.1 w.3 us rest q)
          | after_none _ j ↦
              let r = run s Rest d w.1 b.0 end l w.3 j f.1 in (
                word_reach (role t.class) e f.0 d (λ k m. reach p k m ks) ∙ r.0,
                one_more t ks w.0 w.1 ts b.0 _ _ b.1
                    (word_count (role t.class) e f.0 d (λ k m. ahead k m ks)) r.1,
              )
        ]
    run (shape_template {p = p} t first last us ks e f g sl a s) Rest d text ts end l h i n =
        let w = token_of (role t.class) t (λ x. AlongTo (first ∷ (us ++ (last ∷ ks))) (EndOf p Rest) x)
        text (word_unmarked (role t.class) e) h in
        let b = from_other total (Template total) d t w.0 w.1 ts end (word_goes_on d t.class
        (word_class t.class e)) (step_at total (Template total) d text ts end (token t w.0 w.1) w.2 i) in
        let m = no_stop_after t w.0 w.1 ts b.0 b.1 n in
        let x = found_list first last us ks (EndOf p Rest) w.1 f g a (λ R after q. pos sl R after q) w.3 in
        elim b.2 [
          | after_list _ xs vs rest q z j ↦
              let u = template_unique total w.1 xs x.tokens rest x.rest q x.list in
              let r = run s Rest d rest vs end l
              (subst (λ (y : List ℕ). AlongTo ks (EndOf p Rest) y) (sym u.1) x.further) j
              (no_stop_end xs vs (subst (λ (y : List Token). NoStop (map without_place y)) z m.1)) in
              let inner : map without_place xs ≡ first ∷ (us ++ (last ∷ [])) = ap (map without_place) u.0 ∙ x.kinds in
              let count : ahead 0 d (t ∷ (first ∷ (us ++ (last ∷ ks)))) ≡ suc (suc (length us + suc (ahead 0 d ks))) =
              word_count (role t.class) e m.0 d (λ k o. ahead k o (first ∷ (us ++ (last ∷ ks))))
              ∙ ap (λ (i : ℕ). suc i) (template_count d first last us ks f g sl) in (
                word_reach (role t.class) e m.0 d (λ k o. reach p k o (first ∷ (us ++ (last ∷ ks))))
                    ∙ template_reach p d first last us ks f g sl ∙ r.0,
                ap (map without_place) (b.1 ∙ ap (λ (y : List Token). at total t w.0 w.1 ∷ y) z)
                    ∙ join_kinds t first last us (take (ahead 0 d ks) ks) xs vs inner r.1
                    ∙ sym (ap (λ (i : ℕ). take i (t ∷ (first ∷ (us ++ (last ∷ ks))))) count
                    ∙ ap (λ (y : List Kind). t ∷ (first ∷ y)) (take_over us (ahead 0 d ks) last ks)),
              )
          | after_none never j ↦ absurd (never (word_class t.class e) x.tokens x.rest x.list)
        ]

    -- what is in a template list is found
    pos : {depth : ℕ} {ks : List Kind} → IsWrittenShape inside depth ks
        → (Rest : List ℕ → Type 0) (text : List ℕ) → AlongTo ks (EndOf inside Rest) text
        → Found depth ks Rest text
    pos shape_end Rest text h = ([], h.1, at_greater text h.1 h.2 h.0 h.3 h.4, refl, h.5)
    pos (shape_opening {depth = depth} {t = t} {ts = ks} e s) Rest text h =
        let w = token_of (role t.class) t (λ x. AlongTo ks (EndOf inside Rest) x) text (ap is_mark_role e) h in
        let g = pos s Rest w.1 w.3 in (
          at total t w.0 w.1 ∷ g.0,
          g.1,
          at_opening depth text w.0 w.1 g.1 t g.0 w.2 (opening_class t.class e) g.2,
          ap (λ (x : List Kind). t ∷ x) g.3,
          g.4,
        )
    pos (shape_closing {depth = depth} {deep = deep} {t = t} {ts = ks} e f s) Rest text h =
        let w = token_of (role t.class) t (λ x. AlongTo ks (EndOf inside Rest) x) text (ap is_mark_role e) h in
        let g = pos s Rest w.1 w.3 in
        let i : In (suc depth) text (at total t w.0 w.1 ∷ g.0) g.1 =
        at_closing depth text w.0 w.1 g.1 t g.0 w.2 (closing_class t.class e) g.2 in (
          at total t w.0 w.1 ∷ g.0,
          g.1,
          subst (λ (x : ℕ). In x text (at total t w.0 w.1 ∷ g.0) g.1) (sym f) i,
          ap (λ (x : List Kind). t ∷ x) g.3,
          g.4,
        )
    pos (shape_greater {depth = zero} {t = t} {ts = ks} e m s) Rest text h = absurd m
    pos (shape_greater {depth = suc depth} {t = t} {ts = ks} e m s) Rest text h =
        let w = token_of (role t.class) t (λ x. AlongTo ks (EndOf inside Rest) x) text
        (greater_unmarked (role t.class) e) h in
        let c = greater_class t.class e in
        found_other (suc depth) t ks Rest text w.0 w.1 w.2 (greater_goes_on depth t.class c)
        (λ q. clash _ q (greater_no_word t.class c)) (pos s Rest w.1 w.3)
    pos (shape_short_circuit {depth = zero} {t = t} {ts = ks} e m s) Rest text h = absurd m
    pos (shape_short_circuit {depth = suc depth} {t = t} {ts = ks} e m s) Rest text h =
        let w = token_of (role t.class) t (λ x. AlongTo ks (EndOf inside Rest) x) text (ap is_mark_role e) h in
        let c = short_circuit_class t.class e in
        found_other (suc depth) t ks Rest text w.0 w.1 w.2 (short_circuit_goes_on depth t.class c)
        (λ q. clash _ q (short_circuit_no_word t.class c)) (pos s Rest w.1 w.3)
    pos (shape_plain {depth = depth} {t = t} {ts = ks} e s) Rest text h =
        let w = token_of (role t.class) t (λ x. AlongTo ks (EndOf inside Rest) x) text
        (plain_unmarked (role t.class) e) h in
        let c = plain_class t.class e in
        found_other depth t ks Rest text w.0 w.1 w.2 (plain_goes_on depth t.class c)
        (λ q. clash _ q c.0) (pos s Rest w.1 w.3)
    pos (shape_word {depth = depth} {t = t} {ts = ks} e c s) Rest text h =
        let w = token_of (role t.class) t (λ x. AlongTo ks (EndOf inside Rest) x) text
        (word_unmarked (role t.class) e) h in
        found_other depth t ks Rest text w.0 w.1 w.2 (word_goes_on depth t.class (word_class t.class e))
        (λ _ us rest q. neg s c Rest w.1 w.3 us rest q) (pos s Rest w.1 w.3)
    pos (shape_template {depth = depth} t first last us ks e f g sl l s) Rest text h =
        let w = token_of (role t.class) t (λ x. AlongTo (first ∷ (us ++ (last ∷ ks)))
        (EndOf inside Rest) x) text (word_unmarked (role t.class) e) h in
        let x = found_list first last us ks (EndOf inside Rest) w.1 f g l (λ R after a. pos sl R after a) w.3 in
        let y = pos s Rest x.rest x.further in (
          at total t w.0 w.1 ∷ (x.tokens ++ y.0),
          y.1,
          at_template depth text w.0 w.1 x.rest y.1 t x.tokens y.0 w.2 (word_class t.class e) x.list y.2,
          join_kinds t first last us ks x.tokens y.0 x.kinds y.3,
          y.4,
        )

    -- a `<` after which no list is reached begins no template list
    neg : {p : Place} {depth : ℕ} {ks : List Kind} → IsWrittenShape p depth ks → NoListReached p ks
        → (Rest : List ℕ → Type 0) (text : List ℕ) → AlongTo ks (EndOf p Rest) text
        → (us : List Token) (rest : List ℕ) → Template total text us rest → ⊥
    neg (shape_end {p = p}) c Rest text h us rest q = no_end p Rest text h us rest q
    neg (shape_opening {p = p} {t = t} {ts = ks} e s) c Rest text h us rest q = refuse p t ks
        (EndOf p Rest) text (ap is_mark_role e) c h
        (λ after ts end a i n. run s Rest 0 after ts end (within_start p _) a i n) us rest q
    neg (shape_closing {p = p} {t = t} {ts = ks} e f s) c Rest text h us rest q = refuse p t ks
        (EndOf p Rest) text (ap is_mark_role e) c h
        (λ after ts end a i n. run s Rest 0 after ts end (within_start p _) a i n) us rest q
    neg (shape_greater {p = p} {t = t} {ts = ks} e m s) c Rest text h us rest q = refuse p t ks
        (EndOf p Rest) text (greater_unmarked (role t.class) e) c h
        (λ after ts end a i n. run s Rest 0 after ts end (within_start p _) a i n) us rest q
    neg (shape_short_circuit {p = p} {t = t} {ts = ks} e m s) c Rest text h us rest q =
        refuse p t ks (EndOf p Rest) text (ap is_mark_role e) c h
        (λ after ts end a i n. run s Rest 0 after ts end (within_start p _) a i n) us rest q
    neg (shape_plain {p = p} {t = t} {ts = ks} e s) c Rest text h us rest q = refuse p t ks
        (EndOf p Rest) text (plain_unmarked (role t.class) e) c h
        (λ after ts end a i n. run s Rest 0 after ts end (within_start p _) a i n) us rest q
    neg (shape_word {p = p} {t = t} {ts = ks} e w s) c Rest text h us rest q = no_word t ks
        (EndOf p Rest) text e h us rest q
    neg (shape_template {p = p} t first last vs ks e f g sl l s) c Rest text h us rest q = no_word t
        (first ∷ (vs ++ (last ∷ ks))) (EndOf p Rest) text e h us rest q

  -- ---- a whole text
  -- its tokens are of the kinds
  abbrev Tokens : List Kind → List ℕ → Type 0
  Tokens ks text = (ts : List Token) × TokensOf total text ts finished × (map without_place ts ≡ ks)

  one_token : (k : Kind) (ks : List Kind) (text from after : List ℕ) → raw text ≡ token k from after
      → (is_word k.class ≡ true → NoTemplate (Template total) after) → Tokens ks after
      → Tokens (k ∷ ks) text
  one_token k ks text from after e n g = (
    at total k from after ∷ g.0,
    before_more text from after k g.0 finished e n g.1,
    ap (λ (x : List Kind). k ∷ x) g.2,
  )

  all : {depth : ℕ} {ks : List Kind} → IsWrittenShape outside depth ks → (text : List ℕ)
      → Along ks text → Tokens ks text
  all shape_end text h = ([], at_end text h, refl)
  all (shape_opening {t = t} {ts = ks} e s) text h =
      let w = token_of (role t.class) t (λ x. Along ks x) text (ap is_mark_role e) h in
      one_token t ks text w.0 w.1 w.2 (λ q. absurd (opening_word t.class (opening_class t.class e) q)) (all s w.1 w.3)
  all (shape_closing {t = t} {ts = ks} e f s) text h =
      let w = token_of (role t.class) t (λ x. Along ks x) text (ap is_mark_role e) h in
      one_token t ks text w.0 w.1 w.2 (λ q. absurd (closing_word t.class (closing_class t.class e) q)) (all s w.1 w.3)
  all (shape_greater {t = t} {ts = ks} e m s) text h =
      let w = token_of (role t.class) t (λ x. Along ks x) text (greater_unmarked (role t.class) e) h in
      one_token t ks text w.0 w.1 w.2
      (λ q. clash _ q (greater_no_word t.class (greater_class t.class e))) (all s w.1 w.3)
  all (shape_short_circuit {t = t} {ts = ks} e m s) text h =
      let w = token_of (role t.class) t (λ x. Along ks x) text (ap is_mark_role e) h in
      one_token t ks text w.0 w.1 w.2
      (λ q. clash _ q (short_circuit_no_word t.class (short_circuit_class t.class e))) (all s w.1 w.3)
  all (shape_plain {t = t} {ts = ks} e s) text h =
      let w = token_of (role t.class) t (λ x. Along ks x) text (plain_unmarked (role t.class) e) h in
      one_token t ks text w.0 w.1 w.2 (λ q. clash _ q (plain_class t.class e).0) (all s w.1 w.3)
  all (shape_word {t = t} {ts = ks} e c s) text h =
      let w = token_of (role t.class) t (λ x. Along ks x) text (word_unmarked (role t.class) e) h in
      one_token t ks text w.0 w.1 w.2 (λ _ us rest q. neg s c (λ _. Unit {0}) w.1 w.3 us rest q) (all s w.1 w.3)
  all (shape_template t first last us ks e f g sl l s) text h =
      let w = token_of (role t.class) t (λ x. Along (first ∷ (us ++ (last ∷ ks))) x) text
      (word_unmarked (role t.class) e) h in
      let x = found_list first last us ks (λ rest. raw rest ≡ none_left) w.1 f g l
      (λ R after a. pos sl R after a) w.3 in
      let y = all s x.rest x.further in (
        at total t w.0 w.1 ∷ (x.tokens ++ y.0),
        before_template text w.0 w.1 x.rest t x.tokens y.0 finished w.2 (word_class t.class e) x.list y.1,
        join_kinds t first last us ks x.tokens y.0 x.kinds y.2,
      )

-- a text that lexes along kinds of the shape has tokens of these kinds
pub lexed : (ks : List Kind) → IsWrittenShape outside 0 ks → (total : ℕ) (s : List ℕ) → Along ks s
    → (ts : List Token) × TokensOf total s ts finished × (map without_place ts ≡ ks)
lexed ks o total s h = all total o s h
