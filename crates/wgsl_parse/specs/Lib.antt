-- What contracts of the library name, passed on so that a caller's contracts can name it too.

-- grammars: tokens, what is derived of them, and faults
pub use Rattle.grammar.specs.Tokens
pub use Rattle.grammar.specs.Grammar
pub use Rattle.grammar.specs.Notation
pub use Rattle.grammar.specs.Endings
-- the definitions
pub use Rattle.wgsl_model.specs.Tokens.ClassTable as Classes
pub use Rattle.wgsl_model.specs.Tokens.Kind
pub use Rattle.wgsl_model.specs.Tokens.Words
pub use Rattle.wgsl_model.specs.Tokens.Characters
pub use Rattle.wgsl_model.specs.Tokens.Trivia
pub use Rattle.wgsl_model.specs.Tokens.Pattern
pub use Rattle.wgsl_model.specs.Tokens.Numbers
pub use Rattle.wgsl_model.specs.Tokens.Spelling
pub use Rattle.wgsl_model.specs.Tokens.Raw
pub use Rattle.wgsl_model.specs.Tokens.Texts
pub use Rattle.wgsl_model.specs.Faults.Kinds as Faults
pub use Rattle.wgsl_model.specs.Tokens.Places
pub use Rattle.wgsl_model.specs.Trees.Operators
pub use Rattle.wgsl_model.specs.Trees.NamedValues
pub use Rattle.wgsl_model.specs.Trees.Spanned
pub use Rattle.wgsl_model.specs.Trees.Expressions
pub use Rattle.wgsl_model.specs.Trees.Attributes
pub use Rattle.wgsl_model.specs.Trees.Attributed as AttributedNodes
pub use Rattle.wgsl_model.specs.Trees.Statements
pub use Rattle.wgsl_model.specs.Trees.Units
pub use Rattle.wgsl_model.specs.Grammar.TokenValues
pub use Rattle.wgsl_model.specs.Grammar.Checks
pub use Rattle.wgsl_model.specs.Grammar.Symbols
pub use Rattle.wgsl_model.specs.Grammar.ExpressionParts
pub use Rattle.wgsl_model.specs.Grammar.StatementParts
pub use Rattle.wgsl_model.specs.Grammar.UnitParts
pub use Rattle.wgsl_model.specs.Grammar.Written
pub use Rattle.wgsl_model.specs.Tokens.Templates
pub use Rattle.wgsl_model.specs.Tokens.TokenList
pub use Rattle.wgsl_model.specs.Printed.Joining
pub use Rattle.wgsl_model.specs.Printed.Indentation
pub use Rattle.wgsl_model.specs.Printed.Operators as OperatorTexts
pub use Rattle.wgsl_model.specs.Printed.Expressions as PrintedExpressions
pub use Rattle.wgsl_model.specs.Printed.Attributes as PrintedAttributes
pub use Rattle.wgsl_model.specs.Printed.Declarations as PrintedDeclarations
pub use Rattle.wgsl_model.specs.Printed.Statements as PrintedStatements
pub use Rattle.wgsl_model.specs.Printed.Units as PrintedUnits
pub use Rattle.wgsl_model.specs.Trees.EmptyItems
pub use Rattle.wgsl_model.specs.Trees.WithoutSpans
pub use Rattle.wgsl_model.specs.Trees.StatementsWithoutSpans
pub use Rattle.wgsl_model.specs.Grammar.Small
pub use Rattle.wgsl_theory_grammar.specs.FewerAttributes
pub use Rattle.wgsl_model.specs.Faults.Checked as CheckedFaults
pub use Rattle.wgsl_model.specs.Faults.NamedFault
pub use Rattle.wgsl_model.specs.Faults.Snippets
pub use Rattle.wgsl_model.specs.Trees.Paths
pub use Rattle.wgsl_model.specs.SourceTrees
pub use Rattle.wgsl_model.specs.Program
-- values of the library as plain data
pub use Rattle.wgsl_span.specs.View as SpanView
pub use Rattle.wgsl_span.specs.Spanned as SpannedValues
pub use Rattle.wgsl_span.specs.Copies
pub use Rattle.wgsl_span.specs.Lending as NodeLending
pub use Rattle.wgsl_error.specs.View as ErrorView
pub use Rattle.wgsl_lex_token.specs.View as TokenView
pub use Rattle.wgsl_lex_token.specs.Placed as PlacedTokens
pub use Rattle.wgsl_lexer.specs.Placed as CollectedTokens
pub use Rattle.wgsl_tree_words.specs.View as NamedValueView
pub use Rattle.wgsl_tree_path.specs.View as PathView
pub use Rattle.wgsl_tree_expression.specs.View as ExpressionView
pub use Rattle.wgsl_tree_attribute.specs.View as AttributeView
pub use Rattle.wgsl_tree_simple.specs.View as SimpleStatementView
pub use Rattle.wgsl_tree_statement.specs.View as StatementView
pub use Rattle.wgsl_tree_unit.specs.View as UnitView
-- which variant a value is
pub use Rattle.wgsl_lex_token.specs.Groups as TokenGroups
pub use Rattle.wgsl_tree_expression.specs.VariantsNodes as ExpressionVariants
pub use Rattle.wgsl_tree_attribute.specs.VariantsNodes as AttributeVariants
pub use Rattle.wgsl_tree_simple.specs.VariantsNodes as SimpleStatementVariants
pub use Rattle.wgsl_tree_simple.specs.Kinds as KindWords
pub use Rattle.wgsl_tree_unit.specs.VariantsNodes as UnitVariants
-- errors, and what is returned for texts and of the tokens of iterators
pub use Rattle.wgsl_error.specs.Kinds as ErrorKinds
pub use Rattle.wgsl_error.specs.Places as MarkedLines
pub use Rattle.wgsl_error.specs.Printing as PrintedErrors
pub use Rattle.wgsl_read_cursor.specs.Answers
pub use Rattle.wgsl_read_cursor.specs.Places as ErrorPlaces
pub use Rattle.wgsl_parser.specs.Sources
pub use Rattle.wgsl_parser.specs.Iterators
pub use Rattle.wgsl_parser.specs.Spans as TemplateListSpans
pub use Rattle.wgsl_read_dialect.specs.Recognized
pub use Rattle.wgsl_read_nesting.specs.Nesting
pub use Rattle.wgsl_read_nesting.specs.Deeper
pub use Rattle.wgsl_lexer.specs.Given
pub use Rattle.wgsl_lexer.specs.Left
pub use Rattle.wgsl_lexer.specs.InOrder
-- the template lists of a text
pub use Rattle.wgsl_lex_templates.specs.Lists as TemplateLists
pub use Rattle.wgsl_lex_templates.specs.Spans as FoundSpans
-- nodes and their attributes
pub use Rattle.wgsl_tree_node.specs.Parts as NodeParts
pub use Rattle.wgsl_span.specs.Keeps
pub use Rattle.wgsl_tree_node.specs.Lending as AttributeLending
pub use Rattle.wgsl_tree_node.specs.NamedNodes as DeclaredNames
pub use Rattle.wgsl_tree_node.specs.PlainAttributes
-- equality
pub use Rattle.wgsl_tree_code.specs.Same as EqualityCode
pub use Rattle.wgsl_tree_code.specs.Code as TreeCode
pub use Rattle.wgsl_tree_code.specs.ExpressionNodes as ExpressionCodes
pub use Rattle.wgsl_tree_code.specs.StatementNodes as StatementCodes
pub use Rattle.wgsl_tree_code.specs.UnitNodes as UnitCodes
pub use Rattle.wgsl_tree_expression.specs.Equality as ExpressionEquality
pub use Rattle.wgsl_tree_attribute.specs.Equality as AttributeEquality
pub use Rattle.wgsl_tree_simple.specs.Equality as SimpleStatementEquality
pub use Rattle.wgsl_tree_unit.specs.Equality as UnitEquality
pub use Rattle.wgsl_tree_path.specs.Equality as PathEquality
-- the tokens that are written from a tree
pub use Rattle.wgsl_theory_reread.specs.CanonicalUnits
-- modules formatted
pub use Rattle.wgsl_model_tidy.specs.Pieces as TextPieces
pub use Rattle.wgsl_model_tidy.specs.Roles as TokenRoles
pub use Rattle.wgsl_model_tidy.specs.Joints as TokenJoints
pub use Rattle.wgsl_model_tidy.specs.Open as OpenBrackets
pub use Rattle.wgsl_model_tidy.specs.Layout
pub use Rattle.wgsl_model_tidy.specs.LaidOut
pub use Rattle.wgsl_model_tidy.specs.Formatted
pub use Rattle.wgsl_model_tidy.specs.NonBlank
pub use Rattle.wgsl_model_tidy.specs.Lines
pub use Rattle.wgsl_model_tidy.specs.Brackets
pub use Rattle.wgsl_model_tidy.specs.Shown
pub use Rattle.wgsl_laws.specs.Indents
pub use Rattle.wgsl_model_tidy.specs.Kept as KeptPieces
pub use Rattle.wgsl_model_tidy.specs.Syntax
pub use Rattle.wgsl_model_tidy.specs.Tidied
pub use Rattle.wgsl_format_layout.specs.Layouts
-- what the names of a module refer to
pub use Rattle.wgsl_model_names.specs.Scopes
pub use Rattle.wgsl_model_names.specs.Names
pub use Rattle.wgsl_model_names.specs.Renamed as RenamedTrees
pub use Rattle.wgsl_model_names.specs.RenamedTokens
pub use Rattle.wgsl_model_names.specs.Renaming as Renamings
-- the names of a text with their places
pub use Rattle.wgsl_model_places.specs.Roles as NameRoles
pub use Rattle.wgsl_model_places.specs.Items as NameItems
pub use Rattle.wgsl_model_places.specs.Signs as NameSigns
pub use Rattle.wgsl_model_places.specs.Steps as NameSteps
pub use Rattle.wgsl_model_places.specs.Places as NamePlaces
pub use Rattle.wgsl_lex_names.specs.View as NameView
pub use Rattle.wgsl_resolve_names.specs.Linked as NameReferents
pub use Rattle.wgsl_resolve_names.specs.Found as FoundNames
pub use Rattle.wgsl_read_names.specs.Texts as NamesOfTexts
pub use Rattle.wgsl_references.specs.References
pub use Rattle.wgsl_rename.specs.Renames
pub use Rattle.wgsl_read_rename.specs.Renamed as RenamedTexts
-- modules minified
pub use Rattle.wgsl_model_short.specs.Shortened
pub use Rattle.wgsl_model_short.specs.Shortest
pub use Rattle.wgsl_model_short.specs.Respelled
pub use Rattle.wgsl_model_minify.specs.NewNames as Renaming
pub use Rattle.wgsl_model_minify.specs.Renamed as RenamedNames
pub use Rattle.wgsl_model_minify.specs.Chosen as ChosenNames
pub use Rattle.wgsl_minify_names.specs.View as ChoiceView
pub use Rattle.wgsl_tree_renamed.specs.NewNames
pub use Rattle.wgsl_minify.specs.Hosts as HostNames
pub use Rattle.wgsl_minify.specs.Prints as ShortPrints
pub use Rattle.wgsl_minify.specs.Modules as MinifiedModules
pub use Rattle.wgsl_laws.specs.Hashes
