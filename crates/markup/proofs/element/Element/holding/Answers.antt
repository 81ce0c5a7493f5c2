use Rattle.markup.proofs.Trees.{element_more}
use Rattle.markup.proofs.element.Element.holding.Goals as goal

pub invariant_of-result : goal.invariant_of-result
invariant_of-result c = (
  c.self.invariant.0,
  element_more c.self.inside.inside.items c.push_to.new.text.items c.args.child.now c.self.invariant.1 c.push_to.ensures.attributes
      c.push_to.ensures.inside c.in_ok-push_to.ensures.written,
)
