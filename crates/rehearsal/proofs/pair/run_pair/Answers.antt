-- `run_pair` meets its contract: two runs of `run_list`, and where neither is refused the theorem about two whole lists (`pair-alike`).
use Rattle.rehearsal.proofs.PairLaws.{list-went, pair-alike}
use Rattle.rehearsal.proofs.pair.run_pair.Goals as goal

pub returns : goal.returns
returns c = let second = c.run_list-second.ensures.ran in
    let first = c.run_list-first.ensures.ran in record {
      first = first;
      second = second;
      alike = λ e f g p r.
          pair-alike _ _ _ _ _ _ _ _ _ _ e _ _ _ _ _ _ _ _ (list-went _ _ _ _ _ _ _ _ _ first f) (list-went _ _ _ _ _ _ _ _ _ second g) p r;
    }
