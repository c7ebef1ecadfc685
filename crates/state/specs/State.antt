-- The Function's state. 01, "The Function's tables".
use Rattle.std.specs.Prelude.{Bool, false, cond, ◌||◌, List, ℕ, eqb, None, Option}
use Rattle.packet.specs.declared.Head.{Head}
use Rattle.packet.specs.declared.Tag.{Tag}
use Rattle.packet.specs.Kinds.{attr_zero}
use Rattle.atc.specs.declared.Cache.{Cache}
use Rattle.atc.specs.Cache.{blank}
use Rattle.tags.specs.declared.TagState.{TagState}
use Rattle.tags.specs.Tags.{all_free, set_tag}
use Rattle.pages.specs.declared.Pages.{Pages}
use Rattle.pages.specs.Pages.{switched_off}
use Rattle.translations.specs.declared.Rcb.{Rcb}
use Rattle.translations.specs.declared.Rcb.TheVariants.{B64, B128}
use Rattle.state.specs.declared.Function.{Function}

-- every packet is sent on Traffic Class 0, with zeros in Attr (02 a)
abbrev pub head_of : ℕ → Head
head_of id = record { tc = 0; attr = attr_zero; sender = id }

-- RCB is 64 or 128
abbrev pub is_rcb : ℕ → Bool
is_rcb bytes = eqb bytes 64 || eqb bytes 128

abbrev pub rcb_of : ℕ → Rcb
rcb_of bytes = cond (eqb bytes 128) B128 B64

-- the state after a reset: nothing cached, outstanding or waiting, no agent, the hand at slot 0, E
-- clear and the page interface off
abbrev pub fresh : ℕ → ℕ → Rcb → Function
fresh id stu rcb =
    record {
      id = id;
      stu = stu;
      rcb = rcb;
      enabled = false;
      agent = None;
      waiting = 0;
      cache = blank;
      tags = all_free;
      pages = switched_off;
    }

-- the Function with its parts replaced; below, with one of them replaced
abbrev pub remade : Function → Bool → Option ℕ → ℕ → Cache → List TagState → Pages → Function
remade f enabled agent waiting cache tags pages =
    record {
      id = f.id;
      stu = f.stu;
      rcb = f.rcb;
      enabled = enabled;
      agent = agent;
      waiting = waiting;
      cache = cache;
      tags = tags;
      pages = pages;
    }

abbrev pub with_enable : Function → Bool → Function
with_enable f enabled = remade f enabled f.agent f.waiting f.cache f.tags f.pages

abbrev pub with_agent : Function → Option ℕ → Function
with_agent f agent = remade f f.enabled agent f.waiting f.cache f.tags f.pages

abbrev pub with_waiting : Function → ℕ → Function
with_waiting f waiting = remade f f.enabled f.agent waiting f.cache f.tags f.pages

abbrev pub with_cache : Function → Cache → Function
with_cache f cache = remade f f.enabled f.agent f.waiting cache f.tags f.pages

abbrev pub with_tags : Function → List TagState → Function
with_tags f tags = remade f f.enabled f.agent f.waiting f.cache tags f.pages

abbrev pub with_pages : Function → Pages → Function
with_pages f pages = remade f f.enabled f.agent f.waiting f.cache f.tags pages

abbrev pub with_tag : Function → Tag → TagState → Function
with_tag f t o = with_tags f (set_tag f.tags t o)
