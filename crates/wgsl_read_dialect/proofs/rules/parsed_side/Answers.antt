-- Each rule has the steps of its symbol, written by tools/tables/dialect.py.
use Rattle.wgsl_read_dialect.specs.Steps.{rule_steps}
use Rattle.wgsl_read_dialect.proofs.Views.{choice_is, repeat_is}
use Rattle.wgsl_read_dialect.proofs.rules.parsed_side.Goals as goal

pub returns-in-Ident : goal.returns-in-Ident
unfolding rule_steps
returns-in-Ident c = simp c.in-Ident.is

pub returns-in-TypeSpecifier : goal.returns-in-TypeSpecifier
unfolding rule_steps
returns-in-TypeSpecifier c = simp (c.in-TypeSpecifier.is, choice_is)

pub returns-in-TemplateList : goal.returns-in-TemplateList
unfolding rule_steps
returns-in-TemplateList c = simp c.in-TemplateList.is

pub returns-in-Arguments : goal.returns-in-Arguments
unfolding rule_steps
returns-in-Arguments c = simp c.in-Arguments.is

pub returns-in-Literal : goal.returns-in-Literal
unfolding rule_steps
returns-in-Literal c = simp c.in-Literal.is

pub returns-in-PrimaryExpression : goal.returns-in-PrimaryExpression
unfolding rule_steps
returns-in-PrimaryExpression c = simp (c.in-PrimaryExpression.is, choice_is)

pub returns-in-SingularExpression : goal.returns-in-SingularExpression
unfolding rule_steps
returns-in-SingularExpression c = simp c.in-SingularExpression.is

pub returns-in-Component : goal.returns-in-Component
unfolding rule_steps
returns-in-Component c = simp (c.in-Component.is, choice_is)

pub returns-in-UnaryExpression : goal.returns-in-UnaryExpression
unfolding rule_steps
returns-in-UnaryExpression c = simp (c.in-UnaryExpression.is, choice_is)

pub returns-in-MultiplicativeExpression : goal.returns-in-MultiplicativeExpression
unfolding rule_steps
returns-in-MultiplicativeExpression c = simp (c.in-MultiplicativeExpression.is, choice_is, repeat_is)

pub returns-in-NegatedExpression : goal.returns-in-NegatedExpression
unfolding rule_steps
returns-in-NegatedExpression c = simp (c.in-NegatedExpression.is, choice_is, repeat_is)

pub returns-in-ShiftExpression : goal.returns-in-ShiftExpression
unfolding rule_steps
returns-in-ShiftExpression c = simp c.in-ShiftExpression.is

pub returns-in-RelationalExpression : goal.returns-in-RelationalExpression
unfolding rule_steps
returns-in-RelationalExpression c = simp c.in-RelationalExpression.is

pub returns-in-Expression : goal.returns-in-Expression
unfolding rule_steps
returns-in-Expression c = simp c.in-Expression.is

pub returns-in-LhsExpression : goal.returns-in-LhsExpression
unfolding rule_steps
returns-in-LhsExpression c = simp (c.in-LhsExpression.is, choice_is)

pub returns-in-TemplateItems : goal.returns-in-TemplateItems
unfolding rule_steps
returns-in-TemplateItems c = simp c.in-TemplateItems.is

pub returns-in-TemplateRest : goal.returns-in-TemplateRest
unfolding rule_steps
returns-in-TemplateRest c = simp (c.in-TemplateRest.is, choice_is)

pub returns-in-TemplateMore : goal.returns-in-TemplateMore
unfolding rule_steps
returns-in-TemplateMore c = simp (c.in-TemplateMore.is, choice_is)

pub returns-in-ArgumentRest : goal.returns-in-ArgumentRest
unfolding rule_steps
returns-in-ArgumentRest c = simp (c.in-ArgumentRest.is, choice_is)

pub returns-in-ArgumentMore : goal.returns-in-ArgumentMore
unfolding rule_steps
returns-in-ArgumentMore c = simp (c.in-ArgumentMore.is, choice_is)

pub returns-in-Components : goal.returns-in-Components
unfolding rule_steps
returns-in-Components c = simp (c.in-Components.is, repeat_is)

pub returns-in-Factors : goal.returns-in-Factors
unfolding rule_steps
returns-in-Factors c = simp (c.in-Factors.is, choice_is, repeat_is)

pub returns-in-Summands : goal.returns-in-Summands
unfolding rule_steps
returns-in-Summands c = simp (c.in-Summands.is, choice_is, repeat_is)

pub returns-in-SumRest : goal.returns-in-SumRest
unfolding rule_steps
returns-in-SumRest c = simp (c.in-SumRest.is, choice_is)

pub returns-in-RelationRest : goal.returns-in-RelationRest
unfolding rule_steps
returns-in-RelationRest c = simp (c.in-RelationRest.is, choice_is)

pub returns-in-AndRest : goal.returns-in-AndRest
unfolding rule_steps
returns-in-AndRest c = simp (c.in-AndRest.is, repeat_is)

pub returns-in-OrRest : goal.returns-in-OrRest
unfolding rule_steps
returns-in-OrRest c = simp (c.in-OrRest.is, repeat_is)

pub returns-in-BitwiseAndRest : goal.returns-in-BitwiseAndRest
unfolding rule_steps
returns-in-BitwiseAndRest c = simp (c.in-BitwiseAndRest.is, repeat_is)

pub returns-in-BitwiseOrRest : goal.returns-in-BitwiseOrRest
unfolding rule_steps
returns-in-BitwiseOrRest c = simp (c.in-BitwiseOrRest.is, repeat_is)

pub returns-in-BitwiseXorRest : goal.returns-in-BitwiseXorRest
unfolding rule_steps
returns-in-BitwiseXorRest c = simp (c.in-BitwiseXorRest.is, repeat_is)

pub returns-in-ExpressionRest : goal.returns-in-ExpressionRest
unfolding rule_steps
returns-in-ExpressionRest c = simp (c.in-ExpressionRest.is, choice_is)

pub returns-in-LeftSideInParentheses : goal.returns-in-LeftSideInParentheses
unfolding rule_steps
returns-in-LeftSideInParentheses c = simp c.in-LeftSideInParentheses.is

pub returns-in-PrefixedLeftSide : goal.returns-in-PrefixedLeftSide
unfolding rule_steps
returns-in-PrefixedLeftSide c = simp (c.in-PrefixedLeftSide.is, choice_is)

pub returns-in-CompoundStatement : goal.returns-in-CompoundStatement
unfolding rule_steps
returns-in-CompoundStatement c = simp c.in-CompoundStatement.is

pub returns-in-Statement : goal.returns-in-Statement
unfolding rule_steps
returns-in-Statement c = simp (c.in-Statement.is, choice_is)

pub returns-in-SwitchClause : goal.returns-in-SwitchClause
unfolding rule_steps
returns-in-SwitchClause c = simp c.in-SwitchClause.is

pub returns-in-CaseSelector : goal.returns-in-CaseSelector
unfolding rule_steps
returns-in-CaseSelector c = simp (c.in-CaseSelector.is, choice_is)

pub returns-in-ForInit : goal.returns-in-ForInit
unfolding rule_steps
returns-in-ForInit c = simp (c.in-ForInit.is, choice_is)

pub returns-in-ForUpdate : goal.returns-in-ForUpdate
unfolding rule_steps
returns-in-ForUpdate c = simp (c.in-ForUpdate.is, choice_is)

pub returns-in-Selectors : goal.returns-in-Selectors
unfolding rule_steps
returns-in-Selectors c = simp (c.in-Selectors.is, choice_is)

pub returns-in-StatementRest : goal.returns-in-StatementRest
unfolding rule_steps
returns-in-StatementRest c = simp (c.in-StatementRest.is, choice_is)

pub returns-in-LoopRest : goal.returns-in-LoopRest
unfolding rule_steps
returns-in-LoopRest c = simp (c.in-LoopRest.is, choice_is)

pub returns-in-ContinuingRest : goal.returns-in-ContinuingRest
unfolding rule_steps
returns-in-ContinuingRest c = simp (c.in-ContinuingRest.is, choice_is)

pub returns-in-ClauseRest : goal.returns-in-ClauseRest
unfolding rule_steps
returns-in-ClauseRest c = simp (c.in-ClauseRest.is, choice_is)

pub returns-in-ElseRest : goal.returns-in-ElseRest
unfolding rule_steps
returns-in-ElseRest c = simp (c.in-ElseRest.is, choice_is)

pub returns-in-InitPart : goal.returns-in-InitPart
unfolding rule_steps
returns-in-InitPart c = simp (c.in-InitPart.is, choice_is)

pub returns-in-ConditionPart : goal.returns-in-ConditionPart
unfolding rule_steps
returns-in-ConditionPart c = simp (c.in-ConditionPart.is, choice_is)

pub returns-in-UpdatePart : goal.returns-in-UpdatePart
unfolding rule_steps
returns-in-UpdatePart c = simp (c.in-UpdatePart.is, choice_is)

pub returns-in-BracedPart : goal.returns-in-BracedPart
unfolding rule_steps
returns-in-BracedPart c = simp (c.in-BracedPart.is, choice_is)

pub returns-in-EndedPart : goal.returns-in-EndedPart
unfolding rule_steps
returns-in-EndedPart c = simp (c.in-EndedPart.is, choice_is)

pub returns-in-ClausePart : goal.returns-in-ClausePart
unfolding rule_steps
returns-in-ClausePart c = simp (c.in-ClausePart.is, choice_is)

pub returns-in-ContinuingPart : goal.returns-in-ContinuingPart
unfolding rule_steps
returns-in-ContinuingPart c = simp c.in-ContinuingPart.is

pub returns-in-Attribute : goal.returns-in-Attribute
unfolding rule_steps
returns-in-Attribute c = simp (c.in-Attribute.is, choice_is)

pub returns-in-VarTemplate : goal.returns-in-VarTemplate
unfolding rule_steps
returns-in-VarTemplate c = simp (c.in-VarTemplate.is, choice_is)

pub returns-in-TypedIdent : goal.returns-in-TypedIdent
unfolding rule_steps
returns-in-TypedIdent c = simp (c.in-TypedIdent.is, choice_is)

pub returns-in-StructMember : goal.returns-in-StructMember
unfolding rule_steps
returns-in-StructMember c = simp c.in-StructMember.is

pub returns-in-FormalParameter : goal.returns-in-FormalParameter
unfolding rule_steps
returns-in-FormalParameter c = simp c.in-FormalParameter.is

pub returns-in-GlobalDeclaration : goal.returns-in-GlobalDeclaration
unfolding rule_steps
returns-in-GlobalDeclaration c = simp (c.in-GlobalDeclaration.is, choice_is)

pub returns-in-DiagnosticSeverity : goal.returns-in-DiagnosticSeverity
unfolding rule_steps
returns-in-DiagnosticSeverity c = simp c.in-DiagnosticSeverity.is

pub returns-in-Unit : goal.returns-in-Unit
unfolding rule_steps
returns-in-Unit c = simp c.in-Unit.is

pub returns-in-MemberItems : goal.returns-in-MemberItems
unfolding rule_steps
returns-in-MemberItems c = simp c.in-MemberItems.is

pub returns-in-MemberRest : goal.returns-in-MemberRest
unfolding rule_steps
returns-in-MemberRest c = simp (c.in-MemberRest.is, choice_is)

pub returns-in-MemberMore : goal.returns-in-MemberMore
unfolding rule_steps
returns-in-MemberMore c = simp (c.in-MemberMore.is, choice_is)

pub returns-in-ParameterRest : goal.returns-in-ParameterRest
unfolding rule_steps
returns-in-ParameterRest c = simp (c.in-ParameterRest.is, choice_is)

pub returns-in-ParameterMore : goal.returns-in-ParameterMore
unfolding rule_steps
returns-in-ParameterMore c = simp (c.in-ParameterMore.is, choice_is)

pub returns-in-NameItems : goal.returns-in-NameItems
unfolding rule_steps
returns-in-NameItems c = simp c.in-NameItems.is

pub returns-in-NameRest : goal.returns-in-NameRest
unfolding rule_steps
returns-in-NameRest c = simp (c.in-NameRest.is, choice_is)

pub returns-in-NameMore : goal.returns-in-NameMore
unfolding rule_steps
returns-in-NameMore c = simp (c.in-NameMore.is, choice_is)

pub returns-in-AttributeList : goal.returns-in-AttributeList
unfolding rule_steps
returns-in-AttributeList c = simp (c.in-AttributeList.is, repeat_is)

pub returns-in-VarPart : goal.returns-in-VarPart
unfolding rule_steps
returns-in-VarPart c = simp (c.in-VarPart.is, choice_is)

pub returns-in-OverridePart : goal.returns-in-OverridePart
unfolding rule_steps
returns-in-OverridePart c = simp (c.in-OverridePart.is, choice_is)

pub returns-in-FunctionPart : goal.returns-in-FunctionPart
unfolding rule_steps
returns-in-FunctionPart c = simp (c.in-FunctionPart.is, choice_is)

pub returns-in-ConstPart : goal.returns-in-ConstPart
unfolding rule_steps
returns-in-ConstPart c = simp c.in-ConstPart.is

pub returns-in-AliasPart : goal.returns-in-AliasPart
unfolding rule_steps
returns-in-AliasPart c = simp c.in-AliasPart.is

pub returns-in-StructPart : goal.returns-in-StructPart
unfolding rule_steps
returns-in-StructPart c = simp c.in-StructPart.is

pub returns-in-EnablePart : goal.returns-in-EnablePart
unfolding rule_steps
returns-in-EnablePart c = simp c.in-EnablePart.is

pub returns-in-RequiresPart : goal.returns-in-RequiresPart
unfolding rule_steps
returns-in-RequiresPart c = simp c.in-RequiresPart.is

pub returns-in-DiagnosticPart : goal.returns-in-DiagnosticPart
unfolding rule_steps
returns-in-DiagnosticPart c = rw (c.in-DiagnosticPart.is, choice_is, choice_is)

pub returns-in-AttributedPart : goal.returns-in-AttributedPart
unfolding rule_steps
returns-in-AttributedPart c = simp (c.in-AttributedPart.is, choice_is)

pub returns-in-LedPart : goal.returns-in-LedPart
unfolding rule_steps
returns-in-LedPart c = simp (c.in-LedPart.is, choice_is)

pub returns-in-DirectivePart : goal.returns-in-DirectivePart
unfolding rule_steps
returns-in-DirectivePart c = simp (c.in-DirectivePart.is, choice_is)

pub returns-in-DeclarationList : goal.returns-in-DeclarationList
unfolding rule_steps
returns-in-DeclarationList c = simp (c.in-DeclarationList.is, repeat_is)

pub returns-in-Front : goal.returns-in-Front
unfolding rule_steps
returns-in-Front c = simp (c.in-Front.is, choice_is)

pub returns-in-ReturningPart : goal.returns-in-ReturningPart
unfolding rule_steps
returns-in-ReturningPart c = simp (c.in-ReturningPart.is, choice_is)

pub returns-in-LocalPart : goal.returns-in-LocalPart
unfolding rule_steps
returns-in-LocalPart c = simp (c.in-LocalPart.is, choice_is)

pub returns-in-ValuePart : goal.returns-in-ValuePart
unfolding rule_steps
returns-in-ValuePart c = simp (c.in-ValuePart.is, choice_is)

pub returns-in-PhonyPart : goal.returns-in-PhonyPart
unfolding rule_steps
returns-in-PhonyPart c = simp c.in-PhonyPart.is

pub returns-in-SimplePart : goal.returns-in-SimplePart
unfolding rule_steps
returns-in-SimplePart c = simp (c.in-SimplePart.is, choice_is)

pub returns-in-AssertPart : goal.returns-in-AssertPart
unfolding rule_steps
returns-in-AssertPart c = simp c.in-AssertPart.is

pub returns-in-LeftSideRest : goal.returns-in-LeftSideRest
unfolding rule_steps
returns-in-LeftSideRest c = simp (c.in-LeftSideRest.is, choice_is)

pub returns-in-NameRestStatement : goal.returns-in-NameRestStatement
unfolding rule_steps
returns-in-NameRestStatement c = simp (c.in-NameRestStatement.is, choice_is)

pub returns-in-ParenthesizedStatement : goal.returns-in-ParenthesizedStatement
unfolding rule_steps
returns-in-ParenthesizedStatement c = simp c.in-ParenthesizedStatement.is

pub returns-in-PlainStatement : goal.returns-in-PlainStatement
unfolding rule_steps
returns-in-PlainStatement c = simp (c.in-PlainStatement.is, choice_is)
