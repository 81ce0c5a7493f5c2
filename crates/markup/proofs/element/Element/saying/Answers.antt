use Rattle.markup.proofs.Trees.{words_more}
use Rattle.markup.proofs.element.Element.saying.Goals as goal

pub invariant_of-result : goal.invariant_of-result
invariant_of-result c = (
  c.self.invariant.0,
  words_more c.self.inside.inside.items c.push_escaped.new.text.items c.args.words.now c.self.invariant.1 c.in_ok-push_escaped.ensures,
)
