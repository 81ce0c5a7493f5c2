use Rattle.markup.proofs.Trees.{attribute_more}
use Rattle.markup.proofs.element.Element.having.Goals as goal

pub invariant_of-result : goal.invariant_of-result
invariant_of-result c = (
  attribute_more c.self.inside.attributes.items c.push_attribute.new.text.items c.args.key c.args.value.now c.self.invariant.0
      c.in_ok-push_attribute.ensures,
  c.self.invariant.1,
)
