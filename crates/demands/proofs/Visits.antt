-- How much work the rounds were (02, request 8), said of the figures that are told (`Visits`, specs/Promise.antt).
--   visits-figures       of the figures of any columns
--   accepted-visits      of those of any pair of files
--   statement-visits     and of those read back from the bytes of its statement
use mathlib.Core.Path.{◌≡◌}
use mathlib.Core.List.{List}
use Prim.Native.Nat.{ℕ}
use lib.ListN.{length}
use Rattle.columns.specs.Sum.{whole}
use Rattle.duties.specs.Duties.{Duties}
use Rattle.levy.proofs.Visits.{visits-told, visits-most, visits-least, visits-quiet}
use Rattle.settle.specs.Settlement.{levied, figures}
use Rattle.files.specs.Verdict.{number_of}
use Rattle.settle.specs.Answer.{figures_of, answer_of, buffer_after}
use Rattle.demands.specs.Promise.{figures_at, Visits}
use Rattle.demands.proofs.Demand2.{statement-figures}

pub visits-figures : (need first : ℕ) (d : Duties) → Visits (figures need first d)
unfolding figures levied
visits-figures need first d =
    let pay = whole (figures need first d).compensations in
    record {
      told = visits-told pay d.weights d.caps;
      at_most = visits-most pay d.weights d.caps;
      at_least = visits-least pay d.weights d.caps;
      quiet = visits-quiet pay d.weights d.caps;
    }

pub accepted-visits : (s k : List ℕ) → Visits (figures_of s k)
unfolding figures_of
accepted-visits s k = visits-figures _ _ _

pub statement-visits : (s k out : List ℕ) → number_of (answer_of s k (length out)) ≡ 0 → Visits (figures_at (buffer_after s k out))
statement-visits s k out h = rw (statement-figures s k out h) (accepted-visits s k)
