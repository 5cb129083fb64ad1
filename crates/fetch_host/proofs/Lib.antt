mod Blame
