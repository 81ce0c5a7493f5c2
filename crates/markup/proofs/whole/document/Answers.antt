use Rattle.std.proofs.Common.{List, ℕ, ◌++◌, ap, ◌∙◌}
use Rattle.markup.specs.Forms.{form_text, document_text}
use Rattle.markup.proofs.Trees.{tree_of}
use Rattle.markup.proofs.whole.document.Goals as goal

pub returns-clause-tree : goal.returns-clause-tree
unfolding document_text
returns-clause-tree c =
    tree_of c.push_to.new.text.items c.args.root.now c.push_to.ensures.attributes c.push_to.ensures.inside
    (c.in_ok-push_to.ensures.written ∙ ap (λ (xs : List ℕ). xs ++ form_text c.args.root.now) c.in_ok-text.ensures.items)
