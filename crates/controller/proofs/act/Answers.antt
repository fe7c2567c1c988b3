-- `act` meets its contract: a step that is not refused has the fields that each call asks for (`..-good`), and each arm comes to the definition's (`..-acts`).
use Rattle.controller.proofs.Arms.{command-good, front-good, inhibit-good, scan_good, repeat-good, stop-good, put-good, put-lent-good}
use Rattle.controller.proofs.Arms.{within-good}
use Rattle.controller.proofs.act.Goals as goal

pub send-requires : goal.send-requires
send-requires c = record { fit_crate = c.requires.fit_crate; fields = command-good _ _ c.requires.judged _ _ _ _ c.in-Command.is }

pub front_event-requires : goal.front_event-requires
front_event-requires c = record { fit_crate = c.requires.fit_crate; fields = front-good _ _ c.requires.judged _ _ _ c.in-Front.is }

pub set_inhibit-requires : goal.set_inhibit-requires
set_inhibit-requires c = record { fit_crate = c.requires.fit_crate; v_bound = inhibit-good _ _ c.requires.judged _ c.in-Inhibit.is }

pub scan-requires : goal.scan-requires
scan-requires c = record {
  fit_crate = c.requires.fit_crate;
  fields = scan_good _ _ c.requires.judged _ _ _ _ _
      c.in-Scan.is;
}

pub repeat-requires : goal.repeat-requires
repeat-requires c = record {
  fit_crate = c.requires.fit_crate;
  fields = repeat-good _ _ c.requires.judged _ _ _ _ _
      c.in-Repeat.is;
}

pub stop-requires : goal.stop-requires
stop-requires c = record { fit_crate = c.requires.fit_crate; fields = stop-good _ _ c.requires.judged _ _ _ _ c.in-Stop.is }

pub put_word-requires : goal.put_word-requires
put_word-requires c = record { fit_crate = c.requires.fit_crate; fields = put-good _ _ c.requires.judged _ _ _ _ _ c.in-Put.is }

pub put_lent-requires : goal.put_lent-requires
put_lent-requires c = record { fit_crate = c.requires.fit_crate; fields = (put-lent-good _ _ c.requires.judged _ _ _ _ c.in-PutLent.is).0; narrow = (put-lent-good _ _ c.requires.judged _ _ _ _ c.in-PutLent.is).1 }

pub list_within-requires : goal.list_within-requires
list_within-requires c = record { memory_len = c.requires.fit_crate.size; fields = within-good _ _ c.requires.judged _ _ _ _ c.in-Within.is }
