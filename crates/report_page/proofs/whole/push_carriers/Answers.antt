use Rattle.report_page.specs.Page.{carrier_words}
use Rattle.report_page.proofs.whole.push_carriers.Goals as goal

pub returns : goal.returns
unfolding carrier_words
returns c = rw (← c.degree.ensures.value) c.push_word_number.ensures
