-- The pieces that are put in place of the others have the shorter kinds.
use Rattle.std.proofs.Common.{◌≡◌, ℕ, List, length, drop, sym, ap, subst, ◌∙◌}
use Rattle.std.proofs.lemmas.List.{take-append-drop}
use Rattle.wgsl_lex_token.specs.View.{classes}
use Rattle.wgsl_lex_templates.specs.Kept.{held}
use Rattle.wgsl_lex_templates.specs.Shortened.{MayReplace}
use Rattle.wgsl_lex_templates.proofs.Readings.Pieces.{cut_length}
use Rattle.wgsl_lex_templates.proofs.attempt.keep_short.Goals as goal

pub returns-then-len-lt-FEW_KINDS-clause-more : goal.returns-then-len-lt-FEW_KINDS-clause-more
returns-then-len-lt-FEW_KINDS-clause-more c =
    (drop c.args.start c.args.kept.now.pieces.items, sym (take-append-drop c.args.start c.args.kept.now.pieces.items))

pub returns-then-not-branch-clause-more : goal.returns-then-not-branch-clause-more
returns-then-not-branch-clause-more c =
    (drop c.args.start c.args.kept.now.pieces.items, sym (take-append-drop c.args.start c.args.kept.now.pieces.items))

pub returns-clause-short : goal.returns-clause-short
returns-clause-short c =
    let ps = c.args.kept.now.pieces.items in
    let now = c.push_all.new.self.pieces.items in
    let start = c.args.start in
    let size : length c.truncate.new.self.pieces.items ≡ start = ap length c.truncate.ensures
    ∙ cut_length ps start c.requires.within in
    let short : held now start (length now) ≡ classes c.shorten.new.short.items =
    ap (λ n. held now n (length now)) (sym size) ∙ c.in_ok-push_all.ensures.value
    ∙ ap classes c.deref-2.ensures.value in
    let all : classes c.deref.result.now ≡ held ps start (length ps) =
    ap classes c.deref.ensures.value ∙ c.requires.kinds in
    subst (λ (x : List ℕ). MayReplace x (held ps start (length ps))) (sym short)
    (subst (λ (x : List ℕ). MayReplace (classes c.shorten.new.short.items) x) all
    (c.in_ok-shorten.ensures c.if-not-branch.false))
