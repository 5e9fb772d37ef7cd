-- `find::around::alike` meets its contract.
use Rattle.find.proofs.Alikes.{passed_none}
use Rattle.find.proofs.around.alike.Goals as goal

pub returns-in_default : goal.returns-in_default
returns-in_default c = λ f before r t. passed_none t
