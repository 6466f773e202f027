-- The tokens of a source that are left, and those that are read of them.
use Rattle.std.specs.Prelude.{◌≡◌, ℕ, ◌+◌, if◌then◌else◌, List, [], ◌∷◌, ◌++◌, length, chars}
use Rattle.grammar.specs.Tokens.{Token}
use Rattle.wgsl_model_tidy.specs.Roles.{Role}
use Rattle.wgsl_model_tidy.specs.Joints.{closed_up}
use Rattle.wgsl_model_tidy.specs.Pieces.{Piece, pieces_from}
use Rattle.wgsl_model_tidy.specs.Open.{together, LayoutState, after_token}
use Rattle.wgsl_model_tidy.specs.Ahead.{Ahead, tokens_ahead}
use Rattle.wgsl_span.specs.declared.Span.{Span}
use Rattle.wgsl_lex_token.specs.declared.kind_table.TokenKind.{TokenKind}
use Rattle.wgsl_lexer.specs.TextTokens.{tokens_left, StartWithKind, BeginAt}
use Rattle.wgsl_format_layout.specs.View.{role_view}
use Rattle.wgsl_format_layout.specs.Closing.{tokens_after, open_after}
use Rattle.wgsl_format_layout.specs.Contexts.{IsContext}
use Rattle.wgsl_format_layout.specs.Layouts.{layout_view}
use Rattle.wgsl_format_layout.specs.Left.{AreLeftFrom}
use Rattle.wgsl_format_layout.specs.Marks.{inside, IsAhead, AreAhead}
use Rattle.wgsl_format_layout.specs.Reads.{IsRead, AreRead}
use Rattle.wgsl_format_layout.specs.Windows.{AreClosed}
use Rattle.wgsl_format_layout.specs.declared.role.Role as code
use Rattle.wgsl_format_layout.specs.declared.marks.Trivia.{Trivia}
use Rattle.wgsl_format_layout.specs.declared.marks.Mark.{Mark}
use Rattle.wgsl_format_layout.specs.declared.marks.MarkedToken.{MarkedToken}
use Rattle.wgsl_format_layout.specs.declared.marks.Marks.{Marks}

-- the tokens that are left are those of the source from its offset on
abbrev pub IsLeft : Marks → Type 0
IsLeft marks = AreLeftFrom marks.source.now marks.byte (tokens_left marks.left)

-- the first of some tokens that are left of a source, after a byte offset, is at this place
abbrev pub IsNextAt : List ℕ → ℕ → Span → Type 0
IsNextAt source byte span = (ts : List Token) × (kind : TokenKind)
    × AreLeftFrom source byte ts × StartWithKind ts kind × BeginAt ts span

-- the pieces of the source from there on
abbrev pub pieces_left : Marks → List Piece
pieces_left marks = pieces_from (chars marks.source.now) marks.byte (tokens_left marks.left)

-- the tokens ahead, after such a state
abbrev pub ahead_left : Marks → LayoutState → List Ahead
ahead_left marks state = tokens_ahead (layout_view marks.layout) state (pieces_left marks)

-- the end of the last of some tokens, which are after the end of another
abbrev pub last_end : Mark → List MarkedToken → Mark
last_end end [] = end
last_end end (m ∷ ms) = last_end m.end ms

-- the end of a token of a role, after blank space and comments, and so wide
pub record IsEnd (marks : Marks) (right : Role) (before : Trivia) (width : ℕ) (end : Mark) : Type 0 where
  pub column : end.column ≡ marks.end.column
      + (((if closed_up (role_view marks.context.last) right then 0 else 1) + before.width) + width)
  pub breaks : end.breaks ≡ marks.end.breaks + (if before.ends then 1 else 0)

-- a token is read after a state
pub record ReadsToken (old : Marks) (before : LayoutState) (t : Token) (m : MarkedToken) (new : Marks) : Type 0 where
  pub near : Ahead
  pub role : near.role ≡ role_view m.role
  pub level : near.level ≡ length before.opened
  pub context : IsContext new.context (after_token before 0 t.class (role_view m.role) together)
  pub ahead : ahead_left old before
      ≡ near ∷ ahead_left new (after_token before 0 t.class (role_view m.role) together)
  pub is : (place close : ℕ) (ts : List Ahead) → close ≡ place + inside near ts
      → IsAhead old.end place (record m { close = close }) near ts
  pub read : (close : ℕ) → IsRead old.source.now old.byte before t (tokens_left new.left) (record m { close = close })

-- the first of the tokens that are left is read, and what it opens or closes is kept
pub record HasToken (old : Marks) (role : code.Role) (new : Marks) : Type 0 where
  pub token : Token
  pub m : MarkedToken
  pub whole : tokens_left old.left ≡ token ∷ tokens_left new.left
  pub does : m.role ≡ role
  pub close : m.close ≡ length old.tokens.items
  pub source : new.source.now ≡ old.source.now
  pub layout : new.layout ≡ old.layout
  pub byte : new.byte ≡ token.end
  pub end : new.end ≡ m.end
  pub tokens : new.tokens.items ≡ tokens_after (role_view role) (length old.tokens.items)
      (old.tokens.items ++ (m ∷ [])) old.places
  pub places : new.places ≡ open_after (role_view role) (length old.tokens.items) old.places
  pub reads : (state : LayoutState) → IsContext old.context state → ReadsToken old state token m new

-- tokens are read after a state: these are the first ones ahead
pub record HasRead (old : Marks) (before : LayoutState) (new : Marks) : Type 0 where
  pub state : LayoutState
  pub near : List Ahead
  pub source : new.source.now ≡ old.source.now
  pub layout : new.layout ≡ old.layout
  pub context : IsContext new.context state
  pub ahead : ahead_left old before ≡ near ++ ahead_left new state
  pub are : AreAhead old.end 0 new.tokens.items near
  pub closed : AreClosed near (ahead_left new state)
  pub end : new.end ≡ last_end old.end new.tokens.items
  pub read : AreRead old.source.now old.byte before (tokens_left old.left)
      new.tokens.items new.byte state (tokens_left new.left)
  -- none is left where none is read
  pub none : new.tokens.items ≡ [] → tokens_left new.left ≡ []
