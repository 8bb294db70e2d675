use Rattle.route_writer.proofs.put_row_by_form.Goals as goal

pub put_row-requires : goal.put_row-requires
put_row-requires c =
    record {
      at_in_bounds = rw c.in-Plain.is at c.requires.at_in_bounds;
      form_bound = rw c.in-Plain.is at c.requires.form_bound;
    }

pub put_row-requires-in-Tagged : goal.put_row-requires-in-Tagged
put_row-requires-in-Tagged c =
    record {
      at_in_bounds = rw c.in-Tagged.is at c.requires.at_in_bounds;
      form_bound = rw c.in-Tagged.is at c.requires.form_bound;
    }

pub returns-in-Plain : goal.returns-in-Plain
returns-in-Plain c =
    record {
      size = rw c.in-Plain.is c.put_row.ensures.size;
      out = rw c.in-Plain.is c.put_row.ensures.out;
    }

pub returns-in-Tagged : goal.returns-in-Tagged
returns-in-Tagged c =
    record {
      size = rw c.in-Tagged.is c.put_row-in-Tagged.ensures.size;
      out = rw c.in-Tagged.is c.put_row-in-Tagged.ensures.out;
    }
